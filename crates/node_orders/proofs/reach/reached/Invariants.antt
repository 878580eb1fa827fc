use Rattle.std.proofs.Common.{◌+◌, ◌-◌, length, not, count_by}
use Rattle.node_orders.proofs.Reaching.{IsSearching}
use Rattle.node_orders.proofs.reach.reached.Given as goal

abbrev pub invariant-loop-done : goal.invariant-loop-done
invariant-loop-done l = IsSearching l.edges l.from l.seen l.queue l.done

abbrev pub decreases-loop-done : goal.decreases-loop-done
decreases-loop-done l = length l.queue + count_by not l.seen - l.done
