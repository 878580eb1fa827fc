-- How a call of the program ends.
use Rattle.std.specs.Prelude.{◌≡◌, ℕ, true, false, ◌<◌, ◌≤◌, ◌^◌, Option, None, Some, List, [], length, take, ◌⊎◌, Err}
use Rattle.sim_outside.specs.Faults.{Rose}
use Rattle.sim_outside.specs.Sink.{GrowsBy}
use Rattle.sim_outside.specs.ReadAll.{ReadsToEnd}
use Rattle.sim_outside.specs.declared.reading.ReadEnd.TheVariants.{ReadFault, TooLong}
use Rattle.sim_report.specs.declared.fault.Fault.TheVariants as faults
use Rattle.sim_command.specs.declared.answered.Answered.{Answered}
use Rattle.call_words.specs.declared.command.Command.{Command}
use Rattle.call_words.specs.CommandWords.{GivesCommand}
use Rattle.sim_report.specs.FaultLine.{fault_text}
use Rattle.sim_command.specs.Inputs.{reads_source, NeedSource}
use Rattle.sim_command.specs.Answer.{IsAnswer}

-- a device before a call and after it: the bytes left to read, or written so far, where it tells them, and how many of its calls
-- had failed
pub record Seen : Type 0 where
  pub bytes_before : Option (List ℕ)
  pub bytes_after : Option (List ℕ)
  pub faults_before : ℕ
  pub faults_after : ℕ

-- where they are told, these were all the bytes left, and none is left now
abbrev pub AreAllLeft : Option (List ℕ) → Option (List ℕ) → List ℕ → Type 0
AreAllLeft None after input = Unit {0}
AreAllLeft (Some left) after input = (input ≡ left) × (after ≡ Some [])

-- no call of the device failed
abbrev pub NoneFailed : Seen → Type 0
NoneFailed device = device.faults_after ≡ device.faults_before

-- the device's bytes and its count of faults are as before
pub record IsAsBefore (device : Seen) : Type 0 where
  pub bytes : device.bytes_after ≡ device.bytes_before
  pub none_failed : NoneFailed device

-- the bytes written grew by these
abbrev pub Wrote : Seen → List ℕ → Type 0
Wrote device piece = GrowsBy device.bytes_before device.bytes_after piece

-- the bytes written grew by these, and no write failed
pub record WroteAll (device : Seen) (piece : List ℕ) : Type 0 where
  pub wrote : Wrote device piece
  pub none_failed : NoneFailed device

-- a write failed, and only a front of these was written
pub record WroteFront (device : Seen) (piece : List ℕ) : Type 0 where
  pub failed : Rose device.faults_before device.faults_after
  pub count : ℕ
  pub short : count < length piece
  pub wrote : Wrote device (take count piece)

-- status 2: the words give no command, and nothing is read or written
pub record EndsInUsage (words : List (List ℕ)) (source out : Seen) (line : List ℕ) (status : ℕ) : Type 0 where
  pub no_command : (command : Command) → ¬ GivesCommand words command
  pub status_is : status ≡ 2
  pub source_stays : IsAsBefore source
  pub out_stays : IsAsBefore out
  pub line_is : line ≡ fault_text faults.Usage

-- the source was read to its end with no failure, and these are the bytes
pub record IsReadToEnd (source : Seen) (input : List ℕ) : Type 0 where
  pub few : length input ≤ 2 ^ 20
  pub read : AreAllLeft source.bytes_before source.bytes_after input
  pub none_failed : NoneFailed source

-- the words give a command that works on the bytes of the source, and it was read to its end with no failure
pub record IsReadThrough (words : List (List ℕ)) (source : Seen) : Type 0 where
  pub needed : NeedSource words
  pub input : List ℕ
  pub read : IsReadToEnd source input

-- what the source gives to a command: all of its bytes, read to its end with no failure; or none, where the command doesn't work on
-- them, and then the source is as before
abbrev pub IsGiven : Command → Seen → List ℕ → Type 0
IsGiven command source input =
    ((reads_source command ≡ true) × IsReadToEnd source input)
    ⊎ ((reads_source command ≡ false) × IsAsBefore source × (input ≡ []))

-- the memory ran out, and nothing is written
pub record IsOutOfMemory (out : Seen) (line : List ℕ) (status : ℕ) : Type 0 where
  pub status_is : status ≡ 1
  pub out_stays : IsAsBefore out
  pub line_is : line ≡ fault_text faults.Memory

-- status 1: the memory ran out, before the first read or once the input was read
pub record EndsInMemory (words : List (List ℕ)) (source out : Seen) (line : List ℕ) (status : ℕ) : Type 0 where
  pub ended : IsOutOfMemory out line status
  pub source_is : IsAsBefore source ⊎ IsReadThrough words source

-- status 4: the words give a command that works on the bytes of the source, and a read failed
pub record EndsInReadFault (words : List (List ℕ)) (source out : Seen) (line : List ℕ) (status : ℕ) : Type 0 where
  pub needed : NeedSource words
  pub failed : Rose source.faults_before source.faults_after
  pub read : ReadsToEnd source.bytes_before source.bytes_after (2 ^ 20) (Err ReadFault)
  pub status_is : status ≡ 4
  pub out_stays : IsAsBefore out
  pub line_is : line ≡ fault_text faults.ReadFault

-- status 3: the words give such a command, more than 2^20 bytes came, and no read failed
pub record EndsTooLong (words : List (List ℕ)) (source out : Seen) (line : List ℕ) (status : ℕ) : Type 0 where
  pub needed : NeedSource words
  pub read : ReadsToEnd source.bytes_before source.bytes_after (2 ^ 20) (Err TooLong)
  pub none_failed : NoneFailed source
  pub status_is : status ≡ 3
  pub out_stays : IsAsBefore out
  pub line_is : line ≡ fault_text faults.TooLong

-- the words give a command, and this is its answer where the source gives it these bytes
pub record IsAnswered (words : List (List ℕ)) (source : Seen) (answer : Answered) : Type 0 where
  pub command : Command
  pub is_command : GivesCommand words command
  pub input : List ℕ
  pub given : IsGiven command source input
  pub is : IsAnswer command input answer

-- status 0, 3 or 6: the answer's, and its bytes are written with no failure
pub record EndsInAnswer (words : List (List ℕ)) (source out : Seen) (line : List ℕ) (status : ℕ) : Type 0 where
  pub answer : Answered
  pub answered : IsAnswered words source answer
  pub status_is : status ≡ answer.status
  pub wrote : WroteAll out answer.out
  pub line_is : line ≡ answer.line

-- status 5: the answer has status 0, and a write of its bytes failed
pub record EndsInWriteFault (words : List (List ℕ)) (source out : Seen) (line : List ℕ) (status : ℕ) : Type 0 where
  pub answer : Answered
  pub answered : IsAnswered words source answer
  pub is_fine : answer.status ≡ 0
  pub status_is : status ≡ 5
  pub wrote : WroteFront out answer.out
  pub line_is : line ≡ fault_text faults.WriteFault

-- how a call ends: with its status, and the line of a fault
abbrev pub IsEnding : List (List ℕ) → Seen → Seen → List ℕ → ℕ → Type 0
IsEnding words source out line status =
    EndsInUsage words source out line status
    ⊎ (EndsInMemory words source out line status
    ⊎ (EndsInReadFault words source out line status
    ⊎ (EndsTooLong words source out line status
    ⊎ (EndsInAnswer words source out line status ⊎ EndsInWriteFault words source out line status))))

-- the line is written, or a front of it where a write failed
abbrev pub IsLineWritten : Seen → List ℕ → Type 0
IsLineWritten device line = WroteAll device line ⊎ WroteFront device line

abbrev pub seen : Option (List ℕ) → Option (List ℕ) → ℕ → ℕ → Seen
seen bytes_before bytes_after faults_before faults_after =
    record { bytes_before = bytes_before; bytes_after = bytes_after; faults_before = faults_before; faults_after = faults_after }

-- an answer is delivered: its bytes are written, or a write of them failed
abbrev pub IsDelivery : Answered → Seen → List ℕ → ℕ → Type 0
IsDelivery answer out line status =
    ((status ≡ answer.status) × WroteAll out answer.out × (line ≡ answer.line))
    ⊎ ((status ≡ 5) × WroteFront out answer.out × (line ≡ fault_text faults.WriteFault))

-- the command answers where the source has these bytes, and the answer is delivered, or the memory ran out
abbrev pub IsInputEnding : Command → List ℕ → Seen → List ℕ → ℕ → Type 0
IsInputEnding command input out line status =
    IsOutOfMemory out line status ⊎ ((answer : Answered) × IsAnswer command input answer × IsDelivery answer out line status)
