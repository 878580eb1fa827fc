-- The text that a command works on, and the ranges of its numbers.
use Rattle.std.specs.Prelude.{◌≡◌, ⊤, ℕ, Bool, true, false, Option, None, Some, MatchOption, List}
use Rattle.model_maker.specs.MadeModel.{IsMadeSize, made_text}
use Rattle.sim_replication.specs.Orders.{IsOrderInRange}
use Rattle.call_words.specs.declared.command.Command.{Command}
use Rattle.call_words.specs.declared.command.Command.TheVariants.{Run, Gen}
use Rattle.call_words.specs.CommandWords.{GivesCommand}

-- whether a command works on the bytes of the source: `run --made` and `gen` don't
abbrev pub reads_source : Command → Bool
reads_source (Run order (Some size)) = false
reads_source (Gen size) = false
reads_source command = true

-- the text that a command works on, where these are the bytes of the source: `run --made` works on the made text, and `gen` on none
abbrev pub text_for : Command → List ℕ → Option (List ℕ)
text_for (Run order (Some size)) bytes = Some (made_text size)
text_for (Gen size) bytes = None
text_for command bytes = Some bytes

-- the words give a command that works on the bytes of the source
abbrev pub NeedSource : List (List ℕ) → Type 0
NeedSource words = (command : Command) × GivesCommand words command × (reads_source command ≡ true)

-- the numbers of the command are in their ranges
abbrev pub IsCommandInRange : Command → Type 0
IsCommandInRange (Run order made) = IsOrderInRange order × MatchOption made ⊤ IsMadeSize
IsCommandInRange (Gen size) = IsMadeSize size
IsCommandInRange command = ⊤
