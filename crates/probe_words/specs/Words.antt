-- Words of expressions: lists of marked letters.
use Rattle.std.proofs.Common.{zero, suc}
use Rattle.std.specs.Prelude.{◌≡◌, ℕ, ◌≤◌, ◌<◌, List, [], ◌∷◌, ◌++◌, ◌⊎◌}
use Rattle.probe_words.specs.declared.letter.Letter.{Letter}
use Rattle.probe_words.specs.Guards.{Condition}
use Rattle.probe_words.specs.MarkedLetters.{MarkedLetter, without_guards, guard_added}

-- an expression, without pointers
pub data Pattern : Type 0 where
  Only : Letter → Pattern
  Then : Pattern → Pattern → Pattern
  Or : Pattern → Pattern → Pattern
  Label : Pattern → ℕ → Pattern
  Star : Pattern → Pattern
  Plus : Pattern → Pattern
  Maybe : Pattern → Pattern
  Times : Pattern → ℕ → Pattern
  Between : Pattern → ℕ → ℕ → Pattern
  Reset : Pattern → Letter → Pattern
  Guarded : Condition → Pattern → Pattern

-- a letter without guards and labels
abbrev pub unmarked : Letter → MarkedLetter
unmarked a = record { mark = without_guards a; labels = [] }

-- the letter with one more label
abbrev pub with_label : ℕ → MarkedLetter → MarkedLetter
with_label l x = record { mark = x.mark; labels = l ∷ x.labels }

-- the letter with one more guard
abbrev pub with_guard : Condition → MarkedLetter → MarkedLetter
with_guard g x = record { mark = guard_added g x.mark; labels = x.labels }

-- the label is added to the last letter; the empty word stays
abbrev pub label_last : ℕ → List MarkedLetter → List MarkedLetter
label_last l [] = []
label_last l (x ∷ []) = with_label l x ∷ []
label_last l (x ∷ y ∷ u) = x ∷ label_last l (y ∷ u)

-- the guard is added to the first letter; the empty word stays
abbrev pub guard_first : Condition → List MarkedLetter → List MarkedLetter
guard_first g [] = []
guard_first g (x ∷ u) = with_guard g x ∷ u

-- n parts in a row
abbrev pub IsRow : {X : Type 0} → (List X → Type 0) → ℕ → List X → Type 0
IsRow P zero w = w ≡ []
IsRow P (suc n) w = (u v : _) × P u × IsRow P n v × (w ≡ u ++ v)

-- n times a part and then the element a
abbrev pub IsFronts : {X : Type 0} → (List X → Type 0) → X → ℕ → List X → Type 0
IsFronts P a zero w = w ≡ []
IsFronts P a (suc n) w = (u v : _) × P u × IsFronts P a n v × (w ≡ u ++ a ∷ v)

-- a prefix of such a word
abbrev pub IsPrefixOf : (List MarkedLetter → Type 0) → List MarkedLetter → Type 0
IsPrefixOf W u = (v : List MarkedLetter) × W (u ++ v)

-- the words of an expression: one letter; a word and then another; a word of either part; a label on the last letter; a guard on the
-- first; any number of words in a row, at least one, at most one, exactly n, from m to n; any number of prefixes, each with the letter
-- after it, and then a word
abbrev pub IsProbeWord : Pattern → List MarkedLetter → Type 0
IsProbeWord (Only a) w = w ≡ unmarked a ∷ []
IsProbeWord (Then r s) w = (u v : List MarkedLetter) × IsProbeWord r u × IsProbeWord s v × (w ≡ u ++ v)
IsProbeWord (Or r s) w = IsProbeWord r w ⊎ IsProbeWord s w
IsProbeWord (Label r l) w = (u : List MarkedLetter) × IsProbeWord r u × (w ≡ label_last l u)
IsProbeWord (Guarded g r) w = (u : List MarkedLetter) × IsProbeWord r u × (w ≡ guard_first g u)
IsProbeWord (Star r) w = (n : ℕ) × IsRow (λ u. IsProbeWord r u) n w
IsProbeWord (Plus r) w = (n : ℕ) × IsRow (λ u. IsProbeWord r u) (suc n) w
IsProbeWord (Maybe r) w = (w ≡ []) ⊎ IsProbeWord r w
IsProbeWord (Times r n) w = IsRow (λ u. IsProbeWord r u) n w
IsProbeWord (Between r m n) w = (k : ℕ) × (m ≤ k) × (k ≤ n) × IsRow (λ u. IsProbeWord r u) k w
IsProbeWord (Reset r a) w = (n : ℕ) × (u v : List MarkedLetter) × IsFronts (IsPrefixOf (λ z. IsProbeWord r z)) (unmarked a) n u × IsProbeWord r v × (w ≡ u ++ v)

-- repeat counts from 0 to 63, the first at most the second, and labels below 64
abbrev pub IsProperPattern : Pattern → Type 0
IsProperPattern (Only a) = Unit {0}
IsProperPattern (Then r s) = IsProperPattern r × IsProperPattern s
IsProperPattern (Or r s) = IsProperPattern r × IsProperPattern s
IsProperPattern (Label r l) = IsProperPattern r × (l < 64)
IsProperPattern (Guarded g r) = IsProperPattern r
IsProperPattern (Star r) = IsProperPattern r
IsProperPattern (Plus r) = IsProperPattern r
IsProperPattern (Maybe r) = IsProperPattern r
IsProperPattern (Times r n) = IsProperPattern r × (n < 64)
IsProperPattern (Between r m n) = IsProperPattern r × (m ≤ n) × (n < 64)
IsProperPattern (Reset r a) = IsProperPattern r
