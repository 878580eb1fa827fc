use Rattle.std.proofs.Common.{◌+◌, ◌-◌, ◌*◌, length, drop}
use Rattle.token_grammar.specs.Cursors.{kinds_of}
use Rattle.pepa_reader.specs.Reading.{IsHidden, IsChoice, IsProcess, EndsHidden, EndsChoice}
use Rattle.pepa_reader.proofs.processes.+process.Given as goal

abbrev pub decreases-prefix : goal.decreases-prefix
decreases-prefix l = 8 * (length (kinds_of l.text.now) - l.at)

abbrev pub decreases-hidden : goal.decreases-hidden
decreases-hidden l = 8 * (length (kinds_of l.text.now) - l.at) + 1

abbrev pub decreases-choice : goal.decreases-choice
decreases-choice l = 8 * (length (kinds_of l.text.now) - l.at) + 2

abbrev pub decreases-process : goal.decreases-process
decreases-process l = 8 * (length (kinds_of l.text.now) - l.at) + 3

abbrev pub invariant-hidden-loop-brace : goal.invariant-hidden-loop-brace
invariant-hidden-loop-brace l = IsHidden (kinds_of l.text) l.at l.read

abbrev pub decreases-hidden-loop-brace : goal.decreases-hidden-loop-brace
decreases-hidden-loop-brace l = length (kinds_of l.text) - l.read.next

abbrev pub invariant-choice-loop-behind : goal.invariant-choice-loop-behind
invariant-choice-loop-behind l = record { choices : IsChoice (kinds_of l.text) l.at l.read; ends : EndsHidden (drop l.read.next (kinds_of l.text)) }

abbrev pub decreases-choice-loop-behind : goal.decreases-choice-loop-behind
decreases-choice-loop-behind l = length (kinds_of l.text) - l.read.next

abbrev pub invariant-process-loop-read : goal.invariant-process-loop-read
invariant-process-loop-read l = record { processes : IsProcess (kinds_of l.text) l.at l.read; ends : EndsChoice (drop l.read.next (kinds_of l.text)) }

abbrev pub decreases-process-loop-read : goal.decreases-process-loop-read
decreases-process-loop-read l = length (kinds_of l.text) - l.read.next
