use Rattle.std.proofs.Common.{length, ap, arith}
use Rattle.node_orders.proofs.Marks.{below_at}
use Rattle.node_orders.proofs.cycles.count_targets.Goals as goal

pub bounds-as_slice-at : goal.bounds-as_slice-at
bounds-as_slice-at c =
    omega (arith, below_at _ c.args.targets.now c.loop-target.target-index c.requires c.loop-target-test.true, ap length c.as_slice.ensures)

pub set-requires : goal.set-requires
set-requires c = omega (arith, below_at _ c.args.targets.now c.loop-target.target-index c.requires c.loop-target-test.true)
