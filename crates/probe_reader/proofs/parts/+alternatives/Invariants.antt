use Rattle.std.proofs.Common.{◌+◌, ◌-◌, ◌*◌, length, drop}
use Rattle.token_grammar.specs.Cursors.{kinds_of}
use Rattle.probe_reader.specs.ProbeReading.{IsPostfixed, IsSequence, AreAlternatives, NoSuffix, EndsSequence}
use Rattle.probe_reader.proofs.parts.+alternatives.Given as goal

abbrev pub decreases-atom : goal.decreases-atom
decreases-atom l = 8 * (length (kinds_of l.text.now) - l.at)

abbrev pub decreases-postfixed : goal.decreases-postfixed
decreases-postfixed l = 8 * (length (kinds_of l.text.now) - l.at) + 1

abbrev pub decreases-guarded : goal.decreases-guarded
decreases-guarded l = 8 * (length (kinds_of l.text.now) - l.at) + 2

abbrev pub decreases-sequence : goal.decreases-sequence
decreases-sequence l = 8 * (length (kinds_of l.text.now) - l.at) + 3

abbrev pub decreases-alternatives : goal.decreases-alternatives
decreases-alternatives l = 8 * (length (kinds_of l.text.now) - l.at) + 4

abbrev pub invariant-postfixed-loop-read : goal.invariant-postfixed-loop-read
invariant-postfixed-loop-read l = IsPostfixed (kinds_of l.text) l.at l.read

abbrev pub decreases-postfixed-loop-read : goal.decreases-postfixed-loop-read
decreases-postfixed-loop-read l = length (kinds_of l.text) - l.read.next

abbrev pub invariant-sequence-loop-behind : goal.invariant-sequence-loop-behind
invariant-sequence-loop-behind l = record { sequences : IsSequence (kinds_of l.text) l.at l.read; ends : NoSuffix (drop l.read.next (kinds_of l.text)) }

abbrev pub decreases-sequence-loop-behind : goal.decreases-sequence-loop-behind
decreases-sequence-loop-behind l = length (kinds_of l.text) - l.read.next

abbrev pub invariant-alternatives-loop-behind : goal.invariant-alternatives-loop-behind
invariant-alternatives-loop-behind l = record { choices : AreAlternatives (kinds_of l.text) l.at l.read; ends : EndsSequence (drop l.read.next (kinds_of l.text)) }

abbrev pub decreases-alternatives-loop-behind : goal.decreases-alternatives-loop-behind
decreases-alternatives-loop-behind l = length (kinds_of l.text) - l.read.next
