-- Expressions with eight constructors, by which all others are defined, and their positions.
--
-- A position is a number. Those of an expression are the `size_of` numbers from `at` on: each part has its own, one part after
-- the other, so sets and relations of positions are unions of those of the parts.
use Rattle.std.proofs.Common.{zero, suc}
use Rattle.std.specs.Prelude.{◌≡◌, ℕ, ◌+◌, ◌≤◌, ◌<◌, ◌||◌, ◌&&◌, Bool, true, false, List, [], ◌∷◌, ◌++◌, ◌⊎◌}
use Rattle.probe_words.specs.declared.letter.Letter.{Letter}
use Rattle.probe_words.specs.Guards.{Condition}
use Rattle.probe_words.specs.MarkedLetters.{IsAmong, GuardedLetter, without_guards, guard_added}

-- the empty word; a letter; one part after another; either part; a label on the last letter; a part once or more; a part that can
-- begin anew after a letter; a guard on the first letter
pub data Core : Type 0 where
  Epsilon : Core
  Symbol : Letter → Core
  Sequence : Core → Core → Core
  Alternative : Core → Core → Core
  LastLabelled : Core → ℕ → Core
  Repeated : Core → Core
  Restarted : Core → Letter → Core
  FirstGuarded : Condition → Core → Core

-- the empty word is a word of it
abbrev pub empty_of : Core → Bool
empty_of Epsilon = true
empty_of (Symbol a) = false
empty_of (Sequence r s) = empty_of r && empty_of s
empty_of (Alternative r s) = empty_of r || empty_of s
empty_of (LastLabelled r l) = empty_of r
empty_of (Repeated r) = empty_of r
empty_of (Restarted r a) = empty_of r
empty_of (FirstGuarded g r) = empty_of r

-- the list, or none
abbrev pub list_if : Bool → List ℕ → List ℕ
list_if true xs = xs
list_if false xs = []

-- the number, or 0
abbrev pub count_if : Bool → ℕ → ℕ
count_if true n = n
count_if false n = 0

-- n numbers from this one on
abbrev pub positions_from : ℕ → ℕ → List ℕ
positions_from from zero = []
positions_from from (suc n) = from ∷ positions_from (suc from) n

-- how many positions are first
abbrev pub heads_of : Core → ℕ
heads_of Epsilon = 0
heads_of (Symbol a) = 1
heads_of (Sequence r s) = heads_of r + count_if (empty_of r) (heads_of s)
heads_of (Alternative r s) = heads_of r + heads_of s
heads_of (LastLabelled r l) = heads_of r
heads_of (Repeated r) = heads_of r
heads_of (Restarted r a) = heads_of r + 1
heads_of (FirstGuarded g r) = heads_of r

-- how many positions it has
abbrev pub size_of : Core → ℕ
size_of Epsilon = 0
size_of (Symbol a) = 1
size_of (Sequence r s) = size_of r + size_of s
size_of (Alternative r s) = size_of r + size_of s
size_of (LastLabelled r l) = size_of r
size_of (Repeated r) = size_of r
size_of (Restarted r a) = size_of r + 1
size_of (FirstGuarded g r) = size_of r + heads_of r

-- the first positions, in ascending order
abbrev pub firsts : Core → ℕ → List ℕ
firsts Epsilon at = []
firsts (Symbol a) at = at ∷ []
firsts (Sequence r s) at = firsts r at ++ list_if (empty_of r) (firsts s (at + size_of r))
firsts (Alternative r s) at = firsts r at ++ firsts s (at + size_of r)
firsts (LastLabelled r l) at = firsts r at
firsts (Repeated r) at = firsts r at
firsts (Restarted r a) at = firsts r at ++ (at + size_of r) ∷ []
firsts (FirstGuarded g r) at = positions_from (at + size_of r) (heads_of r)

-- c is the copy of x, where the copies of these positions are numbered from this one on
abbrev pub IsCopy : List ℕ → ℕ → ℕ → ℕ → Type 0
IsCopy [] from c x = ⊥
IsCopy (y ∷ ys) from c x = ((c ≡ from) × (x ≡ y)) ⊎ IsCopy ys (suc from) c x

-- c is the copy of the first position x: copies come after the positions of the part, in the order of what they copy
abbrev pub CopyOf : Core → ℕ → ℕ → ℕ → Type 0
CopyOf r at c x = IsCopy (firsts r at) (at + size_of r) c x

-- i is one of its positions
abbrev pub InPart : Core → ℕ → ℕ → Type 0
InPart r at i = (at ≤ i) × (i < at + size_of r)

-- a word can end at position i; a copy is last where its original is
abbrev pub IsLast : Core → ℕ → ℕ → Type 0
IsLast Epsilon at i = ⊥
IsLast (Symbol a) at i = i ≡ at
IsLast (Sequence r s) at i = (IsLast r at i × (empty_of s ≡ true)) ⊎ IsLast s (at + size_of r) i
IsLast (Alternative r s) at i = IsLast r at i ⊎ IsLast s (at + size_of r) i
IsLast (LastLabelled r l) at i = IsLast r at i
IsLast (Repeated r) at i = IsLast r at i
IsLast (Restarted r a) at i = IsLast r at i ⊎ ((i ≡ at + size_of r) × (empty_of r ≡ true))
IsLast (FirstGuarded g r) at i = IsLast r at i ⊎ ((x : ℕ) × CopyOf r at i x × IsLast r at x)

-- position i has the label l: a labelled part adds it to each of its last positions
abbrev pub HasLabel : Core → ℕ → ℕ → ℕ → Type 0
HasLabel Epsilon at l i = ⊥
HasLabel (Symbol a) at l i = ⊥
HasLabel (Sequence r s) at l i = HasLabel r at l i ⊎ HasLabel s (at + size_of r) l i
HasLabel (Alternative r s) at l i = HasLabel r at l i ⊎ HasLabel s (at + size_of r) l i
HasLabel (LastLabelled r k) at l i = HasLabel r at l i ⊎ ((l ≡ k) × IsLast r at i)
HasLabel (Repeated r) at l i = HasLabel r at l i
HasLabel (Restarted r a) at l i = HasLabel r at l i
HasLabel (FirstGuarded g r) at l i = HasLabel r at l i ⊎ ((x : ℕ) × CopyOf r at i x × HasLabel r at l x)

-- position i has this letter with these guards
abbrev pub IsLetterAt : Core → ℕ → ℕ → GuardedLetter → Type 0
IsLetterAt Epsilon at i m = ⊥
IsLetterAt (Symbol a) at i m = (i ≡ at) × (m ≡ without_guards a)
IsLetterAt (Sequence r s) at i m = IsLetterAt r at i m ⊎ IsLetterAt s (at + size_of r) i m
IsLetterAt (Alternative r s) at i m = IsLetterAt r at i m ⊎ IsLetterAt s (at + size_of r) i m
IsLetterAt (LastLabelled r l) at i m = IsLetterAt r at i m
IsLetterAt (Repeated r) at i m = IsLetterAt r at i m
IsLetterAt (Restarted r a) at i m = IsLetterAt r at i m ⊎ ((i ≡ at + size_of r) × (m ≡ without_guards a))
IsLetterAt (FirstGuarded g r) at i m = IsLetterAt r at i m ⊎ ((x : ℕ) × (n : GuardedLetter) × CopyOf r at i x × IsLetterAt r at x n × (m ≡ guard_added g n))

-- position i is followed by j: the last ones of a part by the first ones of the next; a copy by what its original is followed by; the
-- letter after which a part begins anew follows all its positions and itself, and is followed by its first ones
abbrev pub Follows : Core → ℕ → ℕ → ℕ → Type 0
Follows Epsilon at i j = ⊥
Follows (Symbol a) at i j = ⊥
Follows (Sequence r s) at i j = Follows r at i j ⊎ (Follows s (at + size_of r) i j ⊎ (IsLast r at i × IsAmong j (firsts s (at + size_of r))))
Follows (Alternative r s) at i j = Follows r at i j ⊎ Follows s (at + size_of r) i j
Follows (LastLabelled r l) at i j = Follows r at i j
Follows (Repeated r) at i j = Follows r at i j ⊎ (IsLast r at i × IsAmong j (firsts r at))
Follows (Restarted r a) at i j = Follows r at i j ⊎ ((InPart (Restarted r a) at i × (j ≡ at + size_of r)) ⊎ ((i ≡ at + size_of r) × IsAmong j (firsts r at)))
Follows (FirstGuarded g r) at i j = Follows r at i j ⊎ ((x : ℕ) × CopyOf r at i x × Follows r at x j)
