-- What holds of the answers to all inputs, and of the endings of all calls.
use Rattle.std.specs.Prelude.{◌≡◌, ℕ, false, List}
use Rattle.pepa_lexer.specs.declared.kinds.Place.{Place}
use Rattle.pepa_model.specs.PepaModel.{PepaModel}
use Rattle.pepa_checks.specs.CheckedFiles.{IsShortTextOf}
use Rattle.sim_report.specs.declared.fault.FaultName.{FaultName}
use Rattle.sim_command.specs.declared.answered.Answered.{Answered}
use Rattle.call_words.specs.declared.command.Command.{Command}
use Rattle.call_words.specs.declared.command.Command.TheVariants.{Print}
use Rattle.sim_command.specs.ShortTexts.{IsShort}
use Rattle.sim_command.specs.ModelFaults.{IsModelFault}
use Rattle.call_words.specs.CommandWords.{GivesCommand}
use Rattle.sim_command.specs.Inputs.{reads_source, IsCommandInRange}
use Rattle.sim_command.specs.Answer.{IsAnswer}
use Rattle.sim_command.specs.TopCall.{Seen, IsEnding}
use Rattle.sim_command.specs.SoundEndings.{IsSound, IsSoundEnding}

-- the input has at most one model
abbrev pub HasOneModel : List ℕ → Type 0
HasOneModel input = (x y : PepaModel) → IsShortTextOf input x → IsShortTextOf input y → x ≡ y

-- the input has at most one first fault: one place and one name
abbrev pub HasOneModelFault : List ℕ → Type 0
HasOneModelFault input =
    (here there : Place) (name other : FaultName) → IsModelFault input here name → IsModelFault input there other → (here ≡ there) × (name ≡ other)

-- an input that has a model has no fault
abbrev pub HasModelOrFault : List ℕ → Type 0
HasModelOrFault input = (m : PepaModel) (place : Place) (name : FaultName) → IsShortTextOf input m → ¬ IsModelFault input place name

-- the command has at most one answer where the source has these bytes
abbrev pub HasOneAnswer : Command → List ℕ → Type 0
HasOneAnswer command input = (x y : Answered) → IsAnswer command input x → IsAnswer command input y → x ≡ y

-- where the input is printed, and the printed text is short enough to be read, the command has one answer where the source has
-- either
abbrev pub HasAnswerOfPrinted : Command → List ℕ → Type 0
HasAnswerOfPrinted command input =
    (printed x y : Answered) → IsAnswer Print input printed → printed.status ≡ 0 → IsShort printed.out → IsAnswer command input x → IsAnswer command printed.out y → y ≡ x

-- over a source that has these bytes left, an output that has those, and no call of them that fails, each ending is a sound one
abbrev pub HasSoundEndings : List (List ℕ) → List ℕ → List ℕ → Type 0
HasSoundEndings words input written =
    (source out : Seen) (line : List ℕ) (status : ℕ) → IsEnding words source out line status → IsSound source input → IsSound out written → IsSoundEnding words input written out line status

-- a command that words give has its numbers in their ranges
abbrev pub HasCommandsInRange : List (List ℕ) → Type 0
HasCommandsInRange words = (command : Command) → GivesCommand words command → IsCommandInRange command

-- the answer of a command that doesn't work on the bytes of the source is the same whatever they are
abbrev pub HasAnswerOfItsOwn : Command → Type 0
HasAnswerOfItsOwn command =
    reads_source command ≡ false
    → (input other : List ℕ) (answered : Answered) → IsAnswer command input answered → IsAnswer command other answered
