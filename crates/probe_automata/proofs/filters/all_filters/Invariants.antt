use Rattle.std.proofs.Common.{take, length, ◌^◌}
use Rattle.probe_automata.specs.Filters.{AreFilterRows}
use Rattle.probe_automata.proofs.filters.all_filters.Given as goal

abbrev pub invariant-loop-letter : goal.invariant-loop-letter
invariant-loop-letter l = AreFilterRows l.each l.guards (2 ^ length l.guards) (take l.letter-index l.letters) l.filters
