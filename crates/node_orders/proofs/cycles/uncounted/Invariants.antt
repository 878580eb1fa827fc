use Rattle.std.proofs.Common.{length}
use Rattle.node_orders.specs.Graphs.{AreBelow}
use Rattle.node_orders.proofs.cycles.uncounted.Given as goal

abbrev pub invariant-loop-at : goal.invariant-loop-at
invariant-loop-at l = AreBelow (length l.counts) l.free
