use Rattle.node_orders.proofs.ByRank.{order_read}
use Rattle.node_orders.proofs.orders.by_rank.Goals as goal

pub returns : goal.returns
returns c =
    order_read c.args.ranks.now c.in_ok-list.list.items c.sort.new.list.items c.as_slice.result.now c.in_ok-order.order c.in_ok-list.ensures c.sort.ensures.same c.sort.ensures.sorted c.as_slice.ensures.value c.in_ok-order.ensures
