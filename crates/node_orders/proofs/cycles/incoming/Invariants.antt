use Rattle.std.proofs.Common.{◌≡◌, length}
use Rattle.node_orders.proofs.cycles.incoming.Given as goal

abbrev pub invariant-loop-at : goal.invariant-loop-at
invariant-loop-at l = length l.counts ≡ length l.edges
