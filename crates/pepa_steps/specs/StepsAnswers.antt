-- What `steps` answers.
use Rattle.std.specs.Prelude.{◌≡◌, List, Result, Ok, Err}
use Rattle.std.specs.List.{AllZip}
use Rattle.pepa_rates.specs.declared.rate.RateFault.TheVariants as rates
use Rattle.pepa_model.specs.PepaModel.{PepaModel}
use Rattle.pepa_model.specs.declared.term.Step.{Step}
use Rattle.pepa_steps.specs.States.{State, StateTransition, StepStandsFor}
use Rattle.pepa_steps.specs.Rules.{IsTransitionList}
use Rattle.pepa_steps.specs.StateVerdict.{PartFault, OfRates, OfLength, OfDerivation, IsWithoutFault, IsVerdict}
use Rattle.pepa_steps.specs.declared.transitions.StepFault.{StepFault}
use Rattle.pepa_steps.specs.declared.transitions.StepFault.TheVariants.{Mixed, Overflow, ListTooLong}
use Rattle.pepa_steps.specs.declared.transitions.StepsEnd.{StepsEnd}
use Rattle.pepa_steps.specs.declared.transitions.StepsEnd.TheVariants.{Fault, Memory}

-- the name of a fault
abbrev pub fault_name : PartFault → StepFault
fault_name (OfRates rates.Mixed) = Mixed
fault_name (OfRates rates.Overflow) = Overflow
fault_name OfLength = ListTooLong
fault_name OfDerivation = Overflow

-- the steps are the transition list: one for each derivation, in derivation order; each leads to a term of the model
abbrev pub AreSteps : PepaModel → State → List Step → Type 0
AreSteps m state steps = (transitions : List StateTransition) × IsTransitionList m.bodies state transitions × AllZip (StepStandsFor m) steps transitions

-- the transition list of a state without a fault, else the name of the verdict on it
abbrev pub IsStepsResult : PepaModel → State → Result (List Step) StepsEnd → Type 0
IsStepsResult m state (Ok steps) = IsWithoutFault m.bodies state × AreSteps m state steps
IsStepsResult m state (Err (Fault name)) = (fault : PartFault) × IsVerdict m.bodies state fault × (name ≡ fault_name fault)
IsStepsResult m state (Err Memory) = Unit {0}
