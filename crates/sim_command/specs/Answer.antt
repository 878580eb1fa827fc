-- What a command answers: a status, the bytes for the output, and the line of a fault.
use Rattle.std.specs.Prelude.{ℕ, MatchOption, List, ◌⊎◌}
use Rattle.pepa_lexer.specs.declared.kinds.Place.{Place}
use Rattle.pepa_model.specs.PepaModel.{PepaModel}
use Rattle.pepa_checks.specs.CheckedFiles.{IsShortTextOf}
use Rattle.sim_report.specs.declared.fault.Fault.TheVariants.{Model}
use Rattle.sim_report.specs.declared.fault.FaultName.{FaultName}
use Rattle.sim_command.specs.declared.answered.Answered.{Answered}
use Rattle.call_words.specs.declared.command.Command.{Command}
use Rattle.call_words.specs.declared.command.Command.TheVariants.{Gen}
use Rattle.sim_command.specs.ModelFaults.{IsModelFault}
use Rattle.sim_command.specs.AnswerForms.{IsRefusalAnswer}
use Rattle.sim_command.specs.RunAnswers.{IsGenAnswer}
use Rattle.sim_command.specs.ModelAnswers.{IsModelAnswer}
use Rattle.sim_command.specs.Inputs.{text_for}

-- status 3: the input has no model, and the line is that of its first fault
pub record IsUnread (input : List ℕ) (answered : Answered) : Type 0 where
  pub place : Place
  pub name : FaultName
  pub is_fault : IsModelFault input place name
  pub refused : IsRefusalAnswer answered 3 (Model place name)

-- the input has a model, and this is the command's answer for it
pub record IsRead (command : Command) (input : List ℕ) (answered : Answered) : Type 0 where
  pub model : PepaModel
  pub reads : IsShortTextOf input model
  pub answer : IsModelAnswer command model answered

-- the command's answer to a text of at most 2^20 bytes: that for its model, or else its first fault
abbrev pub IsTextAnswer : Command → List ℕ → Answered → Type 0
IsTextAnswer command text answered = IsUnread text answered ⊎ IsRead command text answered

-- the answer of a command that works on no text
abbrev pub IsOwnAnswer : Command → Answered → Type 0
IsOwnAnswer (Gen size) answered = IsGenAnswer size answered
IsOwnAnswer command answered = ⊥

-- the command's answer where these are the bytes of the source: to the text that it works on, if any. So the answers of `run --made`
-- and of `gen` don't speak of the source
abbrev pub IsAnswer : Command → List ℕ → Answered → Type 0
IsAnswer command bytes answered =
    MatchOption (text_for command bytes) (IsOwnAnswer command answered) (λ text. IsTextAnswer command text answered)
