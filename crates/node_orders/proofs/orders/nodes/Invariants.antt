use Rattle.std.proofs.Common.{◌≡◌, map, take}
use Rattle.node_orders.proofs.orders.nodes.Given as goal

abbrev pub invariant-loop-ranked : goal.invariant-loop-ranked
invariant-loop-ranked l = l.nodes ≡ map (λ r. r.node) (take l.ranked-index l.list)
