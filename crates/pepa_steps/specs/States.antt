-- Systems in some state (J. Hillston, A Compositional Approach to Performance Modelling, 1996, chapter 3: the model components):
-- sequential components that cooperate and hide; and the states that a term of the program stands for.
use Rattle.std.specs.Prelude.{◌≡◌, ℕ, List, Some, slice_get}
use Rattle.pepa_rates.specs.declared.rate.Rate.{Rate}
use Rattle.pepa_model.specs.Expression.{Expression}
use Rattle.pepa_model.specs.PepaModel.{PepaModel}
use Rattle.pepa_model.specs.Terms.{TermNode, LeafNode, CoopNode, HideNode, term_of}
use Rattle.pepa_model.specs.declared.term.Term.{Term}
use Rattle.pepa_model.specs.declared.term.Step.{Step}
use Rattle.pepa_steps.specs.Moves.{Move, move}
pub use Rattle.pepa_steps.specs.Moves.{has}

-- a sequential component; two systems that cooperate over a set of action types; or a system that hides one
pub data State : Type 0 where
  AtLeaf : Expression → State
  Cooperating : State → State → List ℕ → State
  Hiding : State → List ℕ → State

-- a transition of a system: its action type, its signals, its rate, and the state that follows
abbrev pub StateTransition : Type 0
StateTransition = Move State

abbrev pub state_transition : ℕ → ℕ → Rate → State → StateTransition
state_transition a s r next = move a s r next

-- ---- what the terms and steps of the program stand for

-- the term stands for the state: its numbers are those of the state's expressions and sets in the model. A state has at most one
-- term, and a term may stand for more than one state
abbrev pub NodeStandsFor : PepaModel → State → TermNode → Type 0
NodeStandsFor m (AtLeaf e) (LeafNode number) = slice_get m.leaves number ≡ Some e
NodeStandsFor m (Cooperating p q set) (CoopNode x y number) = NodeStandsFor m p x × NodeStandsFor m q y × (slice_get m.sets number ≡ Some set)
NodeStandsFor m (Hiding p set) (HideNode x number) = NodeStandsFor m p x × (slice_get m.sets number ≡ Some set)
NodeStandsFor m _ _ = ⊥

abbrev pub StandsFor : PepaModel → State → Term → Type 0
StandsFor m state term = NodeStandsFor m state (term_of term)

-- this holds of each state that the term stands for
abbrev pub ForEachState : PepaModel → Term → (State → Type 0) → Type 0
ForEachState m term Holds = (state : State) → StandsFor m state term → Holds state

-- the step is this transition; its target stands for the state that follows
pub record StepStandsFor (m : PepaModel) (step : Step) (transition : StateTransition) : Type 0 where
  pub action : step.action ≡ transition.action
  pub signals : step.signals ≡ transition.signals
  pub rate : step.rate ≡ transition.rate
  pub target : StandsFor m transition.target step.target
