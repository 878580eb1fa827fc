use Rattle.std.proofs.Common.{◌+◌, ◌-◌, ◌*◌, length, drop}
use Rattle.token_grammar.specs.Cursors.{kinds_of}
use Rattle.probe_reader.specs.ProbeReading.{IsConjunction, IsGuard, EndsConjunction}
use Rattle.probe_reader.proofs.guards.+guard.Given as goal

abbrev pub decreases-conjunction : goal.decreases-conjunction
decreases-conjunction l = 4 * (length (kinds_of l.text.now) - l.at) + 1

abbrev pub decreases-guard : goal.decreases-guard
decreases-guard l = 4 * (length (kinds_of l.text.now) - l.at) + 2

abbrev pub decreases-negation : goal.decreases-negation
decreases-negation l = 4 * (length (kinds_of l.text.now) - l.at)

abbrev pub invariant-conjunction-loop-behind : goal.invariant-conjunction-loop-behind
invariant-conjunction-loop-behind l = IsConjunction (kinds_of l.text) l.at l.read

abbrev pub decreases-conjunction-loop-behind : goal.decreases-conjunction-loop-behind
decreases-conjunction-loop-behind l = length (kinds_of l.text) - l.read.next

abbrev pub invariant-guard-loop-behind : goal.invariant-guard-loop-behind
invariant-guard-loop-behind l = record { guards : IsGuard (kinds_of l.text) l.at l.read; ends : EndsConjunction (drop l.read.next (kinds_of l.text)) }

abbrev pub decreases-guard-loop-behind : goal.decreases-guard-loop-behind
decreases-guard-loop-behind l = length (kinds_of l.text) - l.read.next
