-- That there is an outcome, and an answer. Where a definition ends in ⊥ it is a double negation: whoever shows that there is none has a
-- contradiction.
use Rattle.std.specs.Prelude.{◌≡◌, ℕ, true, ◌^◌, ◌≤◌, List, length}
use Rattle.pepa_lexer.specs.declared.kinds.Place.{Place}
use Rattle.pepa_model.specs.PepaModel.{PepaModel}
use Rattle.pepa_checks.specs.CheckedFiles.{IsShortTextOf}
use Rattle.sim_report.specs.declared.fault.FaultName.{FaultName}
use Rattle.sim_command.specs.declared.answered.Answered.{Answered}
use Rattle.call_words.specs.declared.command.Command.{Command}
use Rattle.sim_command.specs.ModelFaults.{IsModelFault}
use Rattle.sim_command.specs.ModelAnswers.{IsModelAnswer}
use Rattle.sim_command.specs.Inputs.{reads_source, IsCommandInRange}
use Rattle.sim_command.specs.Answer.{IsTextAnswer, IsAnswer}

-- an input of at most 2^20 bytes has a model or a first fault: it can't have neither
abbrev pub HasSomeOutcome : List ℕ → Type 0
HasSomeOutcome input =
    length input ≤ 2 ^ 20
    → ((m : PepaModel) → ¬ IsShortTextOf input m) → ((place : Place) (name : FaultName) → ¬ IsModelFault input place name) → ⊥

-- the command has an answer for the model
abbrev pub HasModelAnswer : Command → PepaModel → Type 0
HasModelAnswer command m = (answered : Answered) × IsModelAnswer command m answered

-- where a text has a model, the command has an answer to it
abbrev pub HasAnswerIfRead : Command → List ℕ → Type 0
HasAnswerIfRead command text =
    (m : PepaModel) → IsShortTextOf text m → (answered : Answered) × IsTextAnswer command text answered

-- a command with its numbers in their ranges can't have no answer where the source has these bytes, at most 2^20 if the command works
-- on them
abbrev pub HasSomeAnswer : Command → List ℕ → Type 0
HasSomeAnswer command input =
    IsCommandInRange command → (reads_source command ≡ true → length input ≤ 2 ^ 20)
    → ((answered : Answered) → ¬ IsAnswer command input answered) → ⊥
