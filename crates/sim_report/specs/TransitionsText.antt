-- The text of a transition list: a line `action rate target` for each transition.
use Rattle.std.specs.Prelude.{◌≡◌, ℕ, List, ◌∷◌, [], ◌++◌, codes}
use Rattle.std.specs.List.{AllZip, flat_map}
use Rattle.pepa_model.specs.PepaModel.{PepaModel}
use Rattle.pepa_text.specs.RateText.{rate_text}
use Rattle.pepa_text.specs.ComponentText.{name_of}
use Rattle.pepa_text.specs.SystemText.{WrittenSystem, WrittenComponent, WrittenCooperation, WrittenHiding, system_text}
use Rattle.pepa_model.specs.declared.term.Step.{Step}
use Rattle.pepa_steps.specs.States.{State, AtLeaf, Cooperating, Hiding, StateTransition, StepStandsFor}

-- the system that the state is
abbrev pub written_state : State → WrittenSystem
written_state (AtLeaf e) = WrittenComponent e
written_state (Cooperating p q set) = WrittenCooperation (written_state p) (written_state q) set
written_state (Hiding p set) = WrittenHiding (written_state p) set

-- a state as a system is written
abbrev pub state_text : PepaModel → State → List ℕ
state_text m state = system_text m (written_state state)

-- the action type, the rate and the state that follows, with single spaces, and a line feed
abbrev pub transition_text : PepaModel → StateTransition → List ℕ
transition_text m t = name_of m.actions t.action ++ codes " " ++ rate_text t.rate ++ codes " " ++ state_text m t.target ++ 10 ∷ []

-- a line for each transition, in their order
abbrev pub transitions_text : PepaModel → List StateTransition → List ℕ
transitions_text m transitions = flat_map (transition_text m) transitions

-- the text is that of each transition list for which the steps stand
abbrev pub IsTextOfSteps : PepaModel → List Step → List ℕ → Type 0
IsTextOfSteps m steps text = (transitions : List StateTransition) → AllZip (StepStandsFor m) steps transitions → text ≡ transitions_text m transitions
