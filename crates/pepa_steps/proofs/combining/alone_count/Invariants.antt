use Rattle.std.proofs.Common.{◌≡◌, ◌≤◌, length, take}
use Rattle.pepa_steps.specs.Moves.{outside_set}
use Rattle.pepa_steps.specs.Combined.{numbered}
use Rattle.pepa_steps.proofs.combining.alone_count.Given as goal

abbrev pub invariant-loop-index : goal.invariant-loop-index
invariant-loop-index l = (l.count ≡ length (outside_set l.types (numbered 0 (take l._index l.entries)))) × (l.count ≤ l._index)
