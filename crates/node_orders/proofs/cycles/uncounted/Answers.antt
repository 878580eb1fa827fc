use Rattle.std.proofs.Common.{arith}
use Rattle.node_orders.proofs.Reaching.{pushed_below}
use Rattle.node_orders.proofs.cycles.uncounted.Goals as goal
use Rattle.node_orders.proofs.cycles.uncounted.Goals.{then-counts-at-eq0+in_ok-push, else-counts-at-eq0}

pub loop-at-preserved : goal.loop-at-preserved
loop-at-preserved c = elim c.if-counts-at-eq0.branch [
  | then-counts-at-eq0+in_ok-push w ↦
      rw (w.free-is, w.in_ok-push.ensures.ok) (pushed_below _ c.loop-at.free _ c.loop-at.invariant (omega arith))
  | else-counts-at-eq0 w ↦ rw w.free-is c.loop-at.invariant
]
