-- First faults: of parts, taken in post-order, and of action types, taken by their numbers.
use Rattle.std.specs.Prelude.{◌≡◌, ℕ, ◌<◌, ◌≤◌, List, ◌∷◌, ◌++◌}
use Rattle.std.specs.List.{AllByRecursion}
use Rattle.pepa_rates.specs.declared.rate.RateFault.{RateFault}
use Rattle.pepa_model.specs.Opened.{Opened, parts}
use Rattle.pepa_model.specs.Apparent.{Apparent, apparent_rate, IsFine, HasFault}

-- the parts before this one are in order, and this one has the fault
pub record IsFirstFault {P F : Type 0} (Fine : P → Type 0) (Faulty : P → F → Type 0) (all : List P) (fault : F) : Type 0 where
  pub before : List P
  pub at : P
  pub after : List P
  pub whole : all ≡ (before ++ at ∷ after)
  pub fine : AllByRecursion Fine before
  pub faulty : Faulty at fault

-- of the apparent rates by action type, from the type of this number on, the first one that isn't in order has this fault
pub record IsLeastFault (rates : ℕ → Apparent) (first : ℕ) (fault : RateFault) : Type 0 where
  pub action : ℕ
  pub counts : first ≤ action
  pub faulty : HasFault (rates action) fault
  pub least : (other : ℕ) → first ≤ other → other < action → IsFine (rates other)

-- no part of a component has a fault for this action
abbrev pub IsFineFor : ℕ → Opened → Type 0
IsFineFor action whole = AllByRecursion (λ p. IsFine (apparent_rate p action)) (parts whole)

-- the first part that has a fault for this action has this one
abbrev pub IsFaultFor : ℕ → Opened → RateFault → Type 0
IsFaultFor action whole = IsFirstFault (λ p. IsFine (apparent_rate p action)) (λ p f. HasFault (apparent_rate p action) f) (parts whole)
