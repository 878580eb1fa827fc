use Rattle.std.proofs.Common.{◌≡◌, length}
use Rattle.node_orders.specs.Graphs.{AreBelow}
use Rattle.node_orders.proofs.cycles.likely_ranks.Given as goal

abbrev pub invariant-loop-place : goal.invariant-loop-place
invariant-loop-place l = record {
  ranks : length l.ranks ≡ length l.edges;
  counts : length l.counts ≡ length l.edges;
  queue : AreBelow (length l.edges) l.queue;
}
