use Rattle.std.proofs.Common.{◌≡◌, length}
use Rattle.node_orders.proofs.cycles.count_targets.Given as goal

abbrev pub invariant-loop-target : goal.invariant-loop-target
invariant-loop-target l = length l.counts ≡ length l.initial.counts
