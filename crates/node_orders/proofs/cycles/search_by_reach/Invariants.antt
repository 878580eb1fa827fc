use Rattle.node_orders.proofs.Falling.{HasReachesUpTo}
use Rattle.node_orders.proofs.cycles.search_by_reach.Given as goal

abbrev pub invariant-loop-node : goal.invariant-loop-node
invariant-loop-node l = HasReachesUpTo l.edges l.ranks l.node
