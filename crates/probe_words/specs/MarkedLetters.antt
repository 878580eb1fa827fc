-- Letters of words and of positions, with their guards and labels.
use Rattle.std.specs.Prelude.{◌≡◌, ℕ, ◌||◌, Bool, true, false, List, [], ◌∷◌, ◌++◌, ◌⊎◌}
use Rattle.probe_words.specs.declared.letter.Letter.{Letter}
use Rattle.probe_words.specs.Guards.{Condition, same_condition}

-- x is an element of the list
abbrev pub IsAmong : {X : Type 0} → X → List X → Type 0
IsAmong x [] = ⊥
IsAmong x (y ∷ ys) = (x ≡ y) ⊎ IsAmong x ys

-- a letter with its guards, in the order in which they were added
pub record GuardedLetter : Type 0 where
  pub letter : Letter
  pub guards : List Condition

-- a marked letter of a word: a letter with its guards, and its labels
pub record MarkedLetter : Type 0 where
  pub mark : GuardedLetter
  pub labels : List ℕ

-- the guard is one of these
abbrev pub has_guard : List Condition → Condition → Bool
has_guard [] g = false
has_guard (x ∷ xs) g = same_condition x g || has_guard xs g

-- the guards, with one more at the end where it isn't there yet
abbrev pub add_once : Bool → Condition → List Condition → List Condition
add_once true g gs = gs
add_once false g gs = gs ++ g ∷ []

-- a letter without guards
abbrev pub without_guards : Letter → GuardedLetter
without_guards a = record { letter = a; guards = [] }

-- the letter with a guard added, equal ones once
abbrev pub guard_added : Condition → GuardedLetter → GuardedLetter
guard_added g m = record { letter = m.letter; guards = add_once (has_guard m.guards g) g m.guards }
