-- The verdict on a state: the first fault of its parts, taken in post-order.
use Rattle.std.specs.Prelude.{◌≡◌, ℕ, ◌<◌, ◌≤◌, List, length}
use Rattle.std.specs.List.{AllByRecursion}
use Rattle.pepa_rates.specs.declared.rate.RateFault.{RateFault}
use Rattle.pepa_rates.specs.Fraction.{InRange}
use Rattle.pepa_rates.specs.Sum.{fraction_of}
use Rattle.pepa_model.specs.Expression.{Definition}
use Rattle.pepa_model.specs.Apparent.{Apparent, IsFine, HasFault}
use Rattle.pepa_model.specs.Verdict.{IsFirstFault, IsLeastFault}
use Rattle.pepa_steps.specs.States.{State, StateTransition}
use Rattle.pepa_steps.specs.OpenStates.{OpenState, OpensState, parts_in, apparent_in, moves_in}

-- ---- of one action

-- no part has a fault for this action, and this is the state's apparent rate of it
abbrev pub IsApparentRate : List Definition → State → ℕ → Apparent → Type 0
IsApparentRate definitions state action rate =
    (tree : OpenState) × OpensState definitions state tree × AllByRecursion (λ part. IsFine (apparent_in part action)) (parts_in tree) × (apparent_in tree action ≡ rate)

-- the first part that has a fault for the action has this one
abbrev pub IsApparentFault : List Definition → State → ℕ → RateFault → Type 0
IsApparentFault definitions state action fault =
    (tree : OpenState) × OpensState definitions state tree
    × IsFirstFault (λ part. IsFine (apparent_in part action)) (λ part f. HasFault (apparent_in part action) f) (parts_in tree) fault

-- ---- of all actions

-- the apparent rate of each action from 1 up is defined and in range
abbrev pub HasFineStateRates : OpenState → Type 0
HasFineStateRates part = (action : ℕ) → 0 < action → IsFine (apparent_in part action)

-- the rates of its derivations are in range
abbrev pub AreInRange : List StateTransition → Type 0
AreInRange transitions = AllByRecursion (λ t. InRange (fraction_of t.rate)) transitions

-- a part in order: its apparent rates are, it has at most 65,535 derivations, and their rates are in range
pub record IsFinePart (part : OpenState) : Type 0 where
  pub rates : HasFineStateRates part
  pub short : length (moves_in part) ≤ 65535
  pub in_range : AreInRange (moves_in part)

-- why a part is refused
pub data PartFault : Type 0 where
  OfRates : RateFault → PartFault
  OfLength : PartFault
  OfDerivation : PartFault

-- the fault of the least action from 1 up that has one
abbrev pub HasRateFault : OpenState → RateFault → Type 0
HasRateFault part fault = IsLeastFault (apparent_in part) 1 fault

-- where the rates are in order, there may be too many derivations; and where there aren't, one may have a rate out of range
abbrev pub HasPartFault : OpenState → PartFault → Type 0
HasPartFault part (OfRates fault) = HasRateFault part fault
HasPartFault part OfLength = HasFineStateRates part × (65535 < length (moves_in part))
HasPartFault part OfDerivation = HasFineStateRates part × (length (moves_in part) ≤ 65535) × (¬ AreInRange (moves_in part))

-- no part of the state has a fault
abbrev pub IsWithoutFault : List Definition → State → Type 0
IsWithoutFault definitions state = (tree : OpenState) × OpensState definitions state tree × AllByRecursion IsFinePart (parts_in tree)

-- the first part of the state that has a fault has this one
abbrev pub IsVerdict : List Definition → State → PartFault → Type 0
IsVerdict definitions state fault = (tree : OpenState) × OpensState definitions state tree × IsFirstFault IsFinePart HasPartFault (parts_in tree) fault
