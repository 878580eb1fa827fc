use Rattle.std.proofs.Common.{◌∙◌}
use Rattle.node_orders.proofs.Reaching.{read_below}
use Rattle.node_orders.proofs.cycles.incoming.Goals as goal

pub count_targets-requires : goal.count_targets-requires
count_targets-requires c =
    rw c.loop-at.invariant (read_below _ c.args.edges.now c.loop-at.at c.index-edges-at.result _ c.requires c.loop-at-test.true (c.as_slice.ensures ∙ c.index-edges-at.is))
