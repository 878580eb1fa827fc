-- The steps of a model's first state.
use Rattle.std.specs.Prelude.{List, map}
use Rattle.pepa_rates.specs.declared.rate.Rate.{Rate}
use Rattle.pepa_model.specs.PepaModel.{PepaModel}
use Rattle.pepa_model.specs.Terms.{TermNode}
use Rattle.pepa_model.specs.declared.term.Step.{Step}
use Rattle.pepa_steps.specs.States.{State, NodeStandsFor}
use Rattle.pepa_steps.specs.StateVerdict.{IsWithoutFault}
use Rattle.pepa_steps.specs.StepsAnswers.{AreSteps}
use Rattle.probe_attach.specs.FirstStates.{IsFirstState}

-- the rates of steps, in their order
abbrev pub step_rates : List Step → List Rate
step_rates steps = map (λ step. step.rate) steps

-- the steps are those of a state without a fault
abbrev pub AreStepsOf : PepaModel → State → List Step → Type 0
AreStepsOf m state list = IsWithoutFault m.bodies state × AreSteps m state list

-- the steps are those of the first state, which has no fault
pub record AreFirstSteps (m : PepaModel) (list : List Step) : Type 0 where
  pub state : State
  pub first : IsFirstState m state
  pub node : TermNode
  pub stands : NodeStandsFor m state node
  pub steps : AreStepsOf m state list
