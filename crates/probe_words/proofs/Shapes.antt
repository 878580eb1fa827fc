-- How lists are put together from parts, for each constructor of an expression. P and Q tell, for each kind, what the parts are.
use Rattle.std.specs.Prelude.{◌≡◌, ◌≢◌, ℕ, List, [], ◌∷◌, ◌++◌, ◌⊎◌}
use Rattle.probe_words.specs.declared.letter.Letter.{Letter}
use Rattle.probe_words.specs.Guards.{Condition}
use Rattle.probe_words.specs.MarkedLetters.{GuardedLetter, without_guards, guard_added}
use Rattle.probe_words.specs.WordKinds.{WordKind, WholeWord, WordPrefix, LabelledPrefix}
use Rattle.probe_words.specs.Words.{IsRow, IsFronts}

abbrev pub guard_first_letter : Condition → List GuardedLetter → List GuardedLetter
guard_first_letter g [] = []
guard_first_letter g (m ∷ v) = guard_added g m ∷ v

-- not the whole
abbrev pub IsPartial : WordKind → Type 0
IsPartial WholeWord = ⊥
IsPartial WordPrefix = Unit {0}
IsPartial (LabelledPrefix l) = Unit {0}

abbrev pub EpsilonOf : WordKind → List GuardedLetter → Type 0
EpsilonOf WholeWord w = w ≡ []
EpsilonOf WordPrefix w = w ≡ []
EpsilonOf (LabelledPrefix l) w = ⊥

abbrev pub SymbolOf : Letter → WordKind → List GuardedLetter → Type 0
SymbolOf a WholeWord w = w ≡ without_guards a ∷ []
SymbolOf a WordPrefix w = (w ≡ []) ⊎ (w ≡ without_guards a ∷ [])
SymbolOf a (LabelledPrefix l) w = ⊥

abbrev pub SequenceOf : (WordKind → List GuardedLetter → Type 0) → (WordKind → List GuardedLetter → Type 0) → WordKind → List GuardedLetter → Type 0
SequenceOf P Q kind w = (IsPartial kind × P kind w) ⊎ ((u v : List GuardedLetter) × P WholeWord u × Q kind v × (w ≡ u ++ v))

abbrev pub LastLabelledOf : (WordKind → List GuardedLetter → Type 0) → ℕ → WordKind → List GuardedLetter → Type 0
LastLabelledOf P l kind w = P kind w ⊎ ((kind ≡ LabelledPrefix l) × P WholeWord w × (w ≢ []))

abbrev pub RepeatedOf : (WordKind → List GuardedLetter → Type 0) → WordKind → List GuardedLetter → Type 0
RepeatedOf P kind w = (n : ℕ) × (u v : List GuardedLetter) × IsRow (P WholeWord) n u × P kind v × (w ≡ u ++ v)

abbrev pub RestartedOf : (WordKind → List GuardedLetter → Type 0) → Letter → WordKind → List GuardedLetter → Type 0
RestartedOf P a kind w = (n : ℕ) × (u v : List GuardedLetter) × IsFronts (P WordPrefix) (without_guards a) n u × P kind v × (w ≡ u ++ v)

abbrev pub FirstGuardedOf : (WordKind → List GuardedLetter → Type 0) → Condition → WordKind → List GuardedLetter → Type 0
FirstGuardedOf P g kind w = (v : List GuardedLetter) × P kind v × (w ≡ guard_first_letter g v)
