use Rattle.std.proofs.Common.{◌≡◌, length}
use Rattle.node_orders.specs.Graphs.{AreBelow}
use Rattle.node_orders.proofs.cycles.release_targets.Given as goal

abbrev pub invariant-loop-target : goal.invariant-loop-target
invariant-loop-target l = record {
  counts : length l.counts ≡ length l.initial.counts;
  queue : AreBelow (length l.initial.counts) l.queue;
}
