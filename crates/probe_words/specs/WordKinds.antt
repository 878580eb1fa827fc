-- What is asked of a list of letters with guards: that it is a word, or a prefix of one.
use Rattle.std.specs.Prelude.{◌≡◌, ℕ, List, [], ◌∷◌, ◌++◌, map}
use Rattle.probe_words.specs.MarkedLetters.{IsAmong, GuardedLetter, MarkedLetter}

-- a whole word; a prefix of a word; a prefix of a word that has this label on its last letter
pub data WordKind : Type 0 where
  WholeWord : WordKind
  WordPrefix : WordKind
  LabelledPrefix : ℕ → WordKind

-- the last letter has the label
abbrev pub LastHas : ℕ → List MarkedLetter → Type 0
LastHas l [] = ⊥
LastHas l (x ∷ []) = IsAmong l x.labels
LastHas l (x ∷ y ∷ u) = LastHas l (y ∷ u)

-- where a word is u and then v, u is of this kind
abbrev pub CutsAs : WordKind → List MarkedLetter → List MarkedLetter → Type 0
CutsAs WholeWord u v = v ≡ []
CutsAs WordPrefix u v = Unit {0}
CutsAs (LabelledPrefix l) u v = LastHas l u

-- the letters with their guards
abbrev pub without_labels : List MarkedLetter → List GuardedLetter
without_labels u = map (λ x. x.mark) u

-- these letters with guards, labels left aside, are of this kind among the words W
abbrev pub IsOfKind : (List MarkedLetter → Type 0) → WordKind → List GuardedLetter → Type 0
IsOfKind W kind w = (u v : List MarkedLetter) × W (u ++ v) × (without_labels u ≡ w) × CutsAs kind u v
