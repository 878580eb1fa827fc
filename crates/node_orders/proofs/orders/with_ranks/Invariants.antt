use Rattle.node_orders.specs.RankLists.{AreRanked}
use Rattle.node_orders.proofs.orders.with_ranks.Given as goal

abbrev pub invariant-loop-at : goal.invariant-loop-at
invariant-loop-at l = AreRanked l.ranks l.at l.list.items
