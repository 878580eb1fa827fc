use Rattle.std.proofs.Common.{length, ap, arith, subst}
use Rattle.node_orders.specs.Graphs.{IsOrder}
use Rattle.node_orders.specs.Ranks.{IsRankedAbove}
use Rattle.node_orders.proofs.Falling.{reaches_begin, reaches_more, reaches_end, order_found}
use Rattle.node_orders.proofs.cycles.search_by_reach.Goals as goal

pub loop-node-init : goal.loop-node-init
loop-node-init c = rw c.new-ranks.ensures (reaches_begin c.args.edges.now)

pub returns-in-None : goal.returns-in-None
returns-in-None c = record {
  cycle = rw c.in-None.is at c.in_ok-reach.ensures;
  first = λ other low. (c.loop-node.invariant.each other low).not_back;
}

pub loop-node-preserved : goal.loop-node-preserved
loop-node-preserved c =
    rw c.in_ok-push-in-Some.ensures.ok (reaches_more c.args.edges.now c.loop-node.ranks c.loop-node.node c.in-Some.reach c.loop-node.invariant (rw c.in-Some.is at c.in_ok-reach.ensures))

pub by_rank-requires : goal.by_rank-requires
by_rank-requires c = omega (arith, ap length c.as_slice.ensures, c.loop-node.invariant.one_each, c.requires.few)

pub returns : goal.returns
returns c =
    order_found c.args.edges.now c.loop-node.ranks c.in_ok-order.order c.requires.edges_within
    (reaches_end c.args.edges.now c.loop-node.ranks c.loop-node.node (omega arith) c.requires.edges_within c.loop-node.invariant)
    (subst (λ ranks. IsOrder (IsRankedAbove ranks) (length ranks) c.in_ok-order.order) c.as_slice.ensures c.in_ok-order.ensures)
