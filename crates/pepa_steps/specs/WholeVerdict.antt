-- The whole verdict on a state: the first fault of its parts, and else what its transitions together are refused for.
use Rattle.std.specs.Prelude.{⊤, List, map}
use Rattle.pepa_rates.specs.Sum.{fraction_of}
use Rattle.pepa_rates.specs.Weights.{HaveWeights}
use Rattle.pepa_rates.specs.declared.rate.Rate.{Rate}
use Rattle.pepa_rates.specs.declared.rate.Rate.TheVariants.{Active, Passive}
use Rattle.pepa_model.specs.Derivation.{Among}
use Rattle.pepa_model.specs.Expression.{Definition}
use Rattle.pepa_steps.specs.States.{State, StateTransition}
use Rattle.pepa_steps.specs.Rules.{IsTransitionList}
use Rattle.pepa_steps.specs.StateVerdict.{PartFault, IsWithoutFault, IsVerdict}

abbrev pub IsPassive : Rate → Type 0
IsPassive (Active q) = ⊥
IsPassive (Passive q) = ⊤

-- one of the rates is passive, so no active one drives it
abbrev pub HasPassive : List Rate → Type 0
HasPassive rates = (rate : Rate) × Among rate rates × IsPassive rate

abbrev pub rates_of : List StateTransition → List Rate
rates_of transitions = map (λ t. t.rate) transitions

-- the rates as whole numbers over their least common denominator: this and their sum are below 2^62
abbrev pub AreWeighed : List Rate → Type 0
AreWeighed rates = HaveWeights (map fraction_of rates)

-- why a state has no transitions to choose from
pub data StateStop : Type 0 where
  OfPart : PartFault → StateStop
  OfPassive : StateStop
  OfWeights : StateStop

-- the fault of the first faulty part; where no part has one, a passive transition; where there is none, the weights
abbrev pub IsWholeVerdict : List Definition → State → StateStop → Type 0
IsWholeVerdict definitions state (OfPart fault) = IsVerdict definitions state fault
IsWholeVerdict definitions state OfPassive =
    IsWithoutFault definitions state × ((ts : List StateTransition) × IsTransitionList definitions state ts × HasPassive (rates_of ts))
IsWholeVerdict definitions state OfWeights =
    IsWithoutFault definitions state
    × ((ts : List StateTransition) × IsTransitionList definitions state ts × (¬ HasPassive (rates_of ts)) × (¬ AreWeighed (rates_of ts)))

-- one of the state's transitions can be chosen: no part has a fault, none of them is passive, and they have weights
abbrev pub CanChoose : List Definition → State → Type 0
CanChoose definitions state =
    IsWithoutFault definitions state
    × ((ts : List StateTransition) × IsTransitionList definitions state ts × (¬ HasPassive (rates_of ts)) × AreWeighed (rates_of ts))
