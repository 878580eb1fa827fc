use Rattle.std.proofs.Common.{length, arith, ap}
use Rattle.node_orders.proofs.Marks.{below_at, marking_seen_at, marking_new_at, marking_whole}
use Rattle.node_orders.proofs.reach.mark.Goals as goal
use Rattle.node_orders.proofs.reach.mark.Goals.{then-not-as_slice-at+in_ok-push, else-not-as_slice-at}

pub bounds-as_slice-at : goal.bounds-as_slice-at
bounds-as_slice-at c =
    let targets = c.args.targets.now in
    omega (arith, below_at _ targets c.loop-target.target-index c.requires c.loop-target-test.true, ap length c.as_slice.ensures)

pub set-requires : goal.set-requires
set-requires c =
    let targets = c.args.targets.now in
    omega (arith, below_at _ targets c.loop-target.target-index c.requires c.loop-target-test.true)

pub loop-target-preserved : goal.loop-target-preserved
loop-target-preserved c =
    let so_far = c.loop-target.invariant in
    elim c.if-not-as_slice-at.branch [
      | then-not-as_slice-at+in_ok-push w ↦
          rw (w.seen-is, w.set.ensures, w.queue-is, w.in_ok-push.ensures.ok) (marking_new_at c.args.targets.now c.loop-target.target-index _ _ _ _ c.loop-target-test.true c.requires so_far (rw c.as_slice.ensures at w.if-not-as_slice-at.true))
      | else-not-as_slice-at w ↦
          rw (w.seen-is, w.queue-is) (marking_seen_at c.args.targets.now c.loop-target.target-index _ _ _ _ c.loop-target-test.true c.requires so_far (rw c.as_slice.ensures at w.if-not-as_slice-at.false))
    ]

pub returns : goal.returns
returns c = marking_whole c.args.targets.now c.loop-target.target-index _ _ _ _ c.loop-target-test.false c.loop-target.invariant
