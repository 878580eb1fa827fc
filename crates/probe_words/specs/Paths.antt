-- Paths through the positions of an expression, and what they spell.
use Rattle.std.specs.Prelude.{◌≡◌, ℕ, true, List, [], ◌∷◌}
use Rattle.probe_words.specs.MarkedLetters.{IsAmong, GuardedLetter}
use Rattle.probe_words.specs.WordKinds.{WordKind, WholeWord, WordPrefix, LabelledPrefix}
use Rattle.probe_words.specs.Core.{Core, empty_of, firsts, IsLast, HasLabel, IsLetterAt, Follows}

-- from x a path goes on along F at positions with these letters (A), and ends where T holds
abbrev pub GoesOn : (ℕ → ℕ → Type 0) → (ℕ → GuardedLetter → Type 0) → (ℕ → Type 0) → ℕ → List GuardedLetter → Type 0
GoesOn F A T x [] = T x
GoesOn F A T x (m ∷ v) = (y : ℕ) × F x y × A y m × GoesOn F A T y v

-- a path that spells a list of this kind ends here
abbrev pub EndsPath : Core → ℕ → WordKind → ℕ → Type 0
EndsPath r at WholeWord i = IsLast r at i
EndsPath r at WordPrefix i = Unit {0}
EndsPath r at (LabelledPrefix l) i = HasLabel r at l i

-- the empty list is of this kind
abbrev pub AtStart : Core → WordKind → Type 0
AtStart r WholeWord = empty_of r ≡ true
AtStart r WordPrefix = Unit {0}
AtStart r (LabelledPrefix l) = ⊥

-- a path through the positions spells these letters
abbrev pub Spells : Core → ℕ → WordKind → List GuardedLetter → Type 0
Spells r at kind [] = AtStart r kind
Spells r at kind (m ∷ v) = (y : ℕ) × IsAmong y (firsts r at) × IsLetterAt r at y m × GoesOn (Follows r at) (IsLetterAt r at) (EndsPath r at kind) y v
