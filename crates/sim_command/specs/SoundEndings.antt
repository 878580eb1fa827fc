-- How a call ends over devices that tell their bytes and don't fail.
use Rattle.std.specs.Prelude.{◌≡◌, ℕ, true, ◌<◌, ◌≤◌, ◌^◌, Some, List, ◌++◌, length, ◌⊎◌}
use Rattle.sim_outside.specs.Faults.{Rose}
use Rattle.sim_report.specs.declared.fault.Fault.TheVariants as faults
use Rattle.sim_command.specs.declared.answered.Answered.{Answered}
use Rattle.call_words.specs.declared.command.Command.{Command}
use Rattle.call_words.specs.CommandWords.{GivesCommand}
use Rattle.sim_report.specs.FaultLine.{fault_text}
use Rattle.sim_command.specs.Inputs.{reads_source, NeedSource}
use Rattle.sim_command.specs.Answer.{IsAnswer}
use Rattle.sim_command.specs.TopCall.{Seen}

-- the device tells these bytes before the call, and no call of it fails
pub record IsSound (device : Seen) (bytes : List ℕ) : Type 0 where
  pub tells : device.bytes_before ≡ Some bytes
  pub sound : ¬ (Rose device.faults_before device.faults_after)

-- status 2: the words give no command, and nothing is written
pub record IsUsageOver (words : List (List ℕ)) (written : List ℕ) (out : Seen) (line : List ℕ) (status : ℕ) : Type 0 where
  pub no_command : (command : Command) → ¬ GivesCommand words command
  pub status_is : status ≡ 2
  pub out_is : out.bytes_after ≡ Some written
  pub line_is : line ≡ fault_text faults.Usage

-- status 3: the words give a command that works on the bytes of the source, which are more than 2^20, and nothing is written
pub record IsTooLongOver (words : List (List ℕ)) (input written : List ℕ) (out : Seen) (line : List ℕ) (status : ℕ) : Type 0 where
  pub needed : NeedSource words
  pub long : 2 ^ 20 < length input
  pub status_is : status ≡ 3
  pub out_is : out.bytes_after ≡ Some written
  pub line_is : line ≡ fault_text faults.TooLong

-- status 1: the memory ran out, and nothing is written
pub record IsMemoryOver (written : List ℕ) (out : Seen) (line : List ℕ) (status : ℕ) : Type 0 where
  pub status_is : status ≡ 1
  pub out_is : out.bytes_after ≡ Some written
  pub line_is : line ≡ fault_text faults.Memory

-- exactly the answer of the command is written, where the source has these bytes: at most 2^20 if the command works on them
pub record IsAnswerOver (words : List (List ℕ)) (input written : List ℕ) (out : Seen) (line : List ℕ) (status : ℕ) : Type 0 where
  pub command : Command
  pub is_command : GivesCommand words command
  pub few : reads_source command ≡ true → length input ≤ 2 ^ 20
  pub answer : Answered
  pub is : IsAnswer command input answer
  pub status_is : status ≡ answer.status
  pub out_is : out.bytes_after ≡ Some (written ++ answer.out)
  pub line_is : line ≡ answer.line

-- the endings that are left over a source with this input and an output with these bytes
abbrev pub IsSoundEnding : List (List ℕ) → List ℕ → List ℕ → Seen → List ℕ → ℕ → Type 0
IsSoundEnding words input written out line status =
    IsUsageOver words written out line status
    ⊎ (IsTooLongOver words input written out line status
    ⊎ (IsMemoryOver written out line status ⊎ IsAnswerOver words input written out line status))
