use Rattle.std.proofs.Common.{arith}
use Rattle.node_orders.proofs.Marks.{below_at}
use Rattle.node_orders.proofs.Falling.{lower_each}
use Rattle.node_orders.proofs.cycles.are_lower.Goals as goal

pub bounds-ranks-target : goal.bounds-ranks-target
bounds-ranks-target c = below_at _ c.args.targets.now c.loop-target.target-index c.requires c.loop-target-test.true

pub returns : goal.returns
returns c =
    λ _. lower_each c.args.ranks.now c.args.rank c.args.targets.now (λ k low. c.loop-target.invariant k (omega arith))
