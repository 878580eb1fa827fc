use Rattle.pepa_resolver.specs.NamedTypes.{bodies_of}
use Rattle.node_orders.proofs.EdgeLists.{HasEdgesUpTo}
use Rattle.pepa_checks.specs.StructureAnswers.{ConstantEdge}
use Rattle.pepa_checks.proofs.structure.edges_of.Given as goal

abbrev pub invariant-loop-at : goal.invariant-loop-at
invariant-loop-at l = HasEdgesUpTo (ConstantEdge l.kind (bodies_of l.bodies)) l.edges l.at
