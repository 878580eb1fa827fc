use Rattle.std.proofs.Common.{length, ap, ◌∙◌, length-set, arith}
use Rattle.node_orders.proofs.Marks.{below_at}
use Rattle.node_orders.proofs.Reaching.{pushed_below}
use Rattle.node_orders.proofs.cycles.release_targets.Goals as goal
use Rattle.node_orders.proofs.cycles.release_targets.Goals.{then-count-eq0+in_ok-push, else-count-eq0}

pub bounds-as_slice-at : goal.bounds-as_slice-at
bounds-as_slice-at c =
    omega (arith, below_at _ c.args.targets.now c.loop-target.target-index c.requires.below c.loop-target-test.true, ap length c.as_slice.ensures)

pub set-requires : goal.set-requires
set-requires c = omega (arith, below_at _ c.args.targets.now c.loop-target.target-index c.requires.below c.loop-target-test.true)

pub loop-target-preserved : goal.loop-target-preserved
loop-target-preserved c = record {
  counts = ap length c.set.ensures ∙ length-set _ _ _ ∙ c.loop-target.invariant.counts;
  queue = elim c.if-count-eq0.branch [
    | then-count-eq0+in_ok-push w ↦
        rw (w.queue-is, w.in_ok-push.ensures.ok) (pushed_below _ c.loop-target.queue _ c.loop-target.invariant.queue (below_at _ c.args.targets.now c.loop-target.target-index c.requires.below c.loop-target-test.true))
    | else-count-eq0 w ↦ rw w.queue-is c.loop-target.invariant.queue
  ];
}
