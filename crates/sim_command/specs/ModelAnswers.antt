-- What each command answers for a model.
use Rattle.std.specs.Prelude.{◌≡◌, ℕ, List, [], ◌⊎◌}
use Rattle.pepa_model.specs.PepaModel.{PepaModel}
use Rattle.pepa_steps.specs.States.{State, StateTransition}
use Rattle.pepa_steps.specs.Rules.{IsTransitionList}
use Rattle.pepa_steps.specs.StateVerdict.{IsWithoutFault}
use Rattle.pepa_steps.specs.WholeVerdict.{HasPassive, AreWeighed, rates_of, StateStop, IsWholeVerdict}
use Rattle.sim_report.specs.declared.fault.Fault.TheVariants as faults
use Rattle.sim_command.specs.declared.answered.Answered.{Answered}
use Rattle.call_words.specs.declared.command.Command.{Command}
use Rattle.call_words.specs.declared.command.Command.TheVariants.{Steps, Check, Print, Probe, Run, Gen}
use Rattle.sim_report.specs.TransitionsText.{transitions_text}
use Rattle.probe_attach.specs.FirstStates.{IsFirstState}
use Rattle.pepa_printer.specs.ModelText.{model_text}
use Rattle.pepa_checks.specs.CheckedFiles.{IsTextOf}
use Rattle.sim_report.specs.CheckText.{IsCheckText}
use Rattle.sim_space.specs.Stops.{stop_of_verdict}
use Rattle.sim_report.specs.ProbeText.{probe_text_of}
use Rattle.sim_command.specs.AnswerForms.{IsRefusalAnswer, IsFineAnswer}
use Rattle.sim_command.specs.RunAnswers.{IsRunAnswer, IsGenAnswer}

-- ---- steps

-- status 6: the verdict on the first state names a stop
pub record IsStopped (m : PepaModel) (answered : Answered) : Type 0 where
  pub state : State
  pub first : IsFirstState m state
  pub stop : StateStop
  pub verdict : IsWholeVerdict m.bodies state stop
  pub refused : IsRefusalAnswer answered 6 (faults.StepsStopped (stop_of_verdict stop))

-- status 0: the verdict on the first state names none, and its transition list is written, a line for each derivation
pub record IsListed (m : PepaModel) (answered : Answered) : Type 0 where
  pub state : State
  pub first : IsFirstState m state
  pub fine : IsWithoutFault m.bodies state
  pub transitions : List StateTransition
  pub derived : IsTransitionList m.bodies state transitions
  pub active : ¬ HasPassive (rates_of transitions)
  pub weighed : AreWeighed (rates_of transitions)
  pub status_is : answered.status ≡ 0
  pub out_is : answered.out ≡ transitions_text m transitions
  pub line_is : answered.line ≡ []

-- the answer of `steps` for a model
abbrev pub IsStepsAnswer : PepaModel → Answered → Type 0
IsStepsAnswer m answered = IsStopped m answered ⊎ IsListed m answered

-- ---- check

-- the answer of `check` for a model: status 0, and its counts
pub record IsCheckAnswer (m : PepaModel) (answered : Answered) : Type 0 where
  pub status_is : answered.status ≡ 0
  pub out_is : IsCheckText m answered.out
  pub line_is : answered.line ≡ []

-- ---- print

-- the answer of `print` for a model: status 0, and its text in the normal form, which reads back to the model
pub record IsPrintAnswer (m : PepaModel) (answered : Answered) : Type 0 where
  pub status_is : answered.status ≡ 0
  pub out_is : answered.out ≡ model_text m
  pub reads_back : IsTextOf answered.out m
  pub line_is : answered.line ≡ []

-- ---- all commands

-- the answer of a command for a model: that of `probe` is the same for each model, since none has probes yet, and that of `gen` speaks
-- of none
abbrev pub IsModelAnswer : Command → PepaModel → Answered → Type 0
IsModelAnswer Steps m answered = IsStepsAnswer m answered
IsModelAnswer Check m answered = IsCheckAnswer m answered
IsModelAnswer Print m answered = IsPrintAnswer m answered
IsModelAnswer (Probe ask) m answered = IsFineAnswer answered (probe_text_of ask)
IsModelAnswer (Run order made) m answered = IsRunAnswer m order answered
IsModelAnswer (Gen size) m answered = IsGenAnswer size answered
