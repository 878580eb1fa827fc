-- That there is an answer: a transition list, a verdict, an apparent rate, a result of `steps`.
use Rattle.std.specs.Prelude.{ℕ, ◌⊎◌, List, Ok, Err}
use Rattle.pepa_rates.specs.declared.rate.RateFault.{RateFault}
use Rattle.pepa_model.specs.Apparent.{Apparent}
use Rattle.pepa_model.specs.Expression.{Definition}
use Rattle.pepa_model.specs.PepaModel.{PepaModel}
use Rattle.pepa_model.specs.declared.term.Term.{Term}
use Rattle.pepa_model.specs.declared.term.Step.{Step}
use Rattle.pepa_steps.specs.States.{State, StateTransition, StandsFor}
use Rattle.pepa_steps.specs.Rules.{IsTransitionList}
use Rattle.pepa_steps.specs.StateVerdict.{PartFault, IsWithoutFault, IsVerdict, IsApparentRate, IsApparentFault}
use Rattle.pepa_steps.specs.StepsAnswers.{IsStepsResult}
use Rattle.pepa_steps.specs.WholeVerdict.{StateStop, IsWholeVerdict, CanChoose}
use Rattle.pepa_steps.specs.declared.transitions.StepFault.{StepFault}
use Rattle.pepa_steps.specs.declared.transitions.StepsEnd.TheVariants.{Fault}

-- the term stands for some state
abbrev pub StandsForSome : PepaModel → Term → Type 0
StandsForSome m term = (state : State) × StandsFor m state term

-- the state has a transition list
abbrev pub HasTransitionList : List Definition → State → Type 0
HasTransitionList definitions state = (transitions : List StateTransition) × IsTransitionList definitions state transitions

-- the state has a verdict, or none of its parts has a fault
abbrev pub HasVerdictOrNoFault : List Definition → State → Type 0
HasVerdictOrNoFault definitions state = ((fault : PartFault) × IsVerdict definitions state fault) ⊎ IsWithoutFault definitions state

-- the state has an apparent rate of the action, which is none where it doesn't perform it, or one of its parts has a fault for it
abbrev pub HasApparentRateOrFault : List Definition → State → ℕ → Type 0
HasApparentRateOrFault definitions state action =
    ((rate : Apparent) × IsApparentRate definitions state action rate) ⊎ ((fault : RateFault) × IsApparentFault definitions state action fault)

-- there is a list of steps that is a result of `steps` for the state, or a fault that is one
abbrev pub HasStepsOrFault : PepaModel → State → Type 0
HasStepsOrFault m state = ((steps : List Step) × IsStepsResult m state (Ok steps)) ⊎ ((fault : StepFault) × IsStepsResult m state (Err (Fault fault)))

-- the state has a whole verdict, or one of its transitions can be chosen
abbrev pub HasStopOrChoice : List Definition → State → Type 0
HasStopOrChoice definitions state = ((stop : StateStop) × IsWholeVerdict definitions state stop) ⊎ CanChoose definitions state
