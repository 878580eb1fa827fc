-- Which command the words of a call give.
use Rattle.std.specs.Prelude.{◌≡◌, ◌≤◌, ◌*◌, ◌⊎◌, ℕ, Option, None, Some, List, [], ◌∷◌, codes, Result, Ok, Err}
use Rattle.sim_replication.specs.declared.order.Order.{Order}
use Rattle.sim_report.specs.declared.probe_ask.ProbeAsk.{ProbeAsk}
use Rattle.sim_report.specs.declared.probe_ask.ProbeAsk.TheVariants.{All, Events}
use Rattle.call_words.specs.declared.command.Command.{Command}
use Rattle.call_words.specs.declared.command.Command.TheVariants.{Steps, Check, Print, Probe, Run, Gen}
use Rattle.call_words.specs.declared.command.WordsFault.{WordsFault}
use Rattle.call_words.specs.declared.command.WordsFault.TheVariants.{Usage, Memory}
use Rattle.call_words.specs.OptionUses.{GiveValues}
use Rattle.call_words.specs.OptionTable.{NumberOption, seed_option, runs_option, passages_option, jumps_option, workers_option, table_option, entries_option, bin_option, bins_option, run_names, probe_names, IsNumberText, IsOptionNumber, IsMadeOption, AreEventNames}

-- n is the option's number, where names have these values
abbrev pub HasNumber : NumberOption → (List ℕ → Option (List ℕ)) → ℕ → Type 0
HasNumber option value n = IsOptionNumber option (value option.name) n

-- the order of `run`, where its options have these values: each number in its range, and at most ten
-- million passages in all replications together
pub record IsOrderOf (value : List ℕ → Option (List ℕ)) (order : Order) : Type 0 where
  pub seed : HasNumber seed_option value order.seed
  pub runs : HasNumber runs_option value order.runs
  pub passages : HasNumber passages_option value order.passages
  pub jumps : HasNumber jumps_option value order.jumps
  pub workers : HasNumber workers_option value order.workers
  pub table : HasNumber table_option value order.table
  pub entries : HasNumber entries_option value order.entries
  pub bin : HasNumber bin_option value order.bin
  pub bins : HasNumber bins_option value order.bins
  pub all_passages : order.runs * order.passages ≤ 10000000

-- the texts are a probe's number, from 1 to 16, and the names of the events for which it is asked
abbrev pub AreEventsIn : List ℕ → List ℕ → ProbeAsk → Type 0
AreEventsIn number_text events_text All = ⊥
AreEventsIn number_text events_text (Events number names) =
    IsNumberText 1 16 number_text number × AreEventNames events_text names

-- what `probe` asks for, where `--number` and `--events` have these values, both or neither
abbrev pub IsAskOfBoth : Option (List ℕ) → Option (List ℕ) → ProbeAsk → Type 0
IsAskOfBoth None None ask = ask ≡ All
IsAskOfBoth (Some number_text) (Some events_text) ask = AreEventsIn number_text events_text ask
IsAskOfBoth _ _ ask = ⊥

-- what `probe` asks for, where its options have these values
abbrev pub IsAskOf : (List ℕ → Option (List ℕ)) → ProbeAsk → Type 0
IsAskOf value ask = IsAskOfBoth (value (codes "number")) (value (codes "events")) ask

-- the words after `probe` ask for this
abbrev pub GivesAsk : List (List ℕ) → ProbeAsk → Type 0
GivesAsk words ask =
    (value : List ℕ → Option (List ℕ)) × GiveValues probe_names words value × IsAskOf value ask

-- the order of `run` and the size of a made model, if any, where its options have these values
abbrev pub IsRunOf : (List ℕ → Option (List ℕ)) → Order → Option ℕ → Type 0
IsRunOf value order made = IsOrderOf value order × IsMadeOption (value (codes "made")) made

-- the words after `run` order this, of the made model of this size if there is one
abbrev pub GivesRun : List (List ℕ) → Order → Option ℕ → Type 0
GivesRun words order made =
    (value : List ℕ → Option (List ℕ)) × GiveValues run_names words value × IsRunOf value order made

-- the words after `gen` are one word, the size of a made model: from 1 to 100
abbrev pub GivesSize : List (List ℕ) → ℕ → Type 0
GivesSize words size = (text : List ℕ) × (words ≡ text ∷ []) × IsNumberText 1 100 text size

-- the words give the command: the first names it, and the others are its options
abbrev pub GivesCommand : List (List ℕ) → Command → Type 0
GivesCommand [] command = ⊥
GivesCommand (first ∷ others) Steps = (first ≡ codes "steps") × (others ≡ [])
GivesCommand (first ∷ others) Check = (first ≡ codes "check") × (others ≡ [])
GivesCommand (first ∷ others) Print = (first ≡ codes "print") × (others ≡ [])
GivesCommand (first ∷ others) (Probe ask) = (first ≡ codes "probe") × GivesAsk others ask
GivesCommand (first ∷ others) (Run order made) = (first ≡ codes "run") × GivesRun others order made
GivesCommand (first ∷ others) (Gen size) = (first ≡ codes "gen") × GivesSize others size

-- the command that the words give, or that they give none; want of memory says nothing
abbrev pub AnswersWords : List (List ℕ) → Result Command WordsFault → Type 0
AnswersWords words (Ok command) = GivesCommand words command
AnswersWords words (Err Usage) = (command : Command) → ¬ GivesCommand words command
AnswersWords words (Err Memory) = Unit {0}

-- the words give a command, or they give none
abbrev pub HasCommandOrNone : List (List ℕ) → Type 0
HasCommandOrNone words =
    ((command : Command) × GivesCommand words command) ⊎ ((command : Command) → ¬ GivesCommand words command)
