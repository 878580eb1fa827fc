-- What `load` answers, and where `target` leads.
use Rattle.std.specs.Prelude.{◌≡◌, ℕ, Some, List, map, slice_get, Result, Ok, Err}
use Rattle.pepa_model.specs.Expression.{Definition}
use Rattle.pepa_model.specs.PepaModel.{PepaModel}
use Rattle.pepa_model.specs.declared.term.Term.{Term}
use Rattle.pepa_steps.specs.States.{State, StateTransition, StandsFor}
use Rattle.pepa_steps.specs.Rules.{IsTransitionList}
use Rattle.pepa_steps.specs.StateVerdict.{PartFault, IsWithoutFault, IsVerdict}
use Rattle.pepa_steps.specs.StepsAnswers.{fault_name}
use Rattle.pepa_steps.specs.Combined.{entry_of}
use Rattle.pepa_steps.specs.declared.entries.Entry.{Entry}
use Rattle.pepa_steps.specs.declared.transitions.StepsEnd.{StepsEnd}
use Rattle.pepa_steps.specs.declared.transitions.StepsEnd.TheVariants.{Fault, Memory}

-- the entries are the transition list without its targets
abbrev pub AreEntries : PepaModel → State → List Entry → Type 0
AreEntries m state entries = (transitions : List StateTransition) × IsTransitionList m.bodies state transitions × (entries ≡ map entry_of transitions)

-- the list of a state without a fault, else the name of the verdict on it
abbrev pub IsListAnswer : PepaModel → State → List Entry → Result (Unit {0}) StepsEnd → Type 0
IsListAnswer m state entries (Ok _) = IsWithoutFault m.bodies state × AreEntries m state entries
IsListAnswer m state entries (Err (Fault name)) = (fault : PartFault) × IsVerdict m.bodies state fault × (name ≡ fault_name fault)
IsListAnswer m state entries (Err Memory) = Unit {0}

-- the transition at this place of the state's list
pub record IsTransitionAt (definitions : List Definition) (state : State) (index : ℕ) (transition : StateTransition) : Type 0 where
  pub transitions : List StateTransition
  pub listed : IsTransitionList definitions state transitions
  pub at : slice_get transitions index ≡ Some transition

-- the made term stands for the state that follows the transition at this index, of each state that the term stands for
abbrev pub IsTargetAt : PepaModel → Term → ℕ → Term → Type 0
IsTargetAt m term index made =
    (state : State) (transition : StateTransition) → StandsFor m state term → IsTransitionAt m.bodies state index transition → StandsFor m transition.target made
