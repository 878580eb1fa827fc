use Rattle.std.proofs.Common.{length, subst}
use Rattle.node_orders.specs.Graphs.{EdgeOf, IsOrder}
use Rattle.node_orders.specs.Ranks.{IsRankedAbove, AreRanks}
use Rattle.node_orders.proofs.Falling.{order_found}
use Rattle.node_orders.proofs.cycles.cycle_or_order.Goals as goal

pub returns-then-do_fall : goal.returns-then-do_fall
returns-then-do_fall c =
    let edges = c.args.edges.now in
    order_found edges c.in_ok-ranks.ranks c.in_ok-order.order c.requires.edges_within
    (subst (λ ranks. AreRanks (EdgeOf edges) (length edges) ranks) c.as_slice.ensures (c.do_fall.ensures c.if-do_fall.true))
    (subst (λ ranks. IsOrder (IsRankedAbove ranks) (length ranks) c.in_ok-order.order) c.as_slice-then-do_fall.ensures c.in_ok-order.ensures)
