use Rattle.std.proofs.Common.{length}
use Rattle.pepa_resolver.specs.NamedTypes.{bodies_of}
use Rattle.node_orders.proofs.EdgeLists.{found_read}
use Rattle.pepa_checks.specs.StructureAnswers.{ConstantEdge}
use Rattle.pepa_checks.proofs.EdgeLists.{edges_below}
use Rattle.pepa_checks.proofs.structure.search.Goals as goal

pub cycle_or_order-requires-clause-edges_within : goal.cycle_or_order-requires-clause-edges_within
cycle_or_order-requires-clause-edges_within c =
    rw (c.as_slice.ensures, c.in_ok-edges.ensures.lists) (edges_below c.args.kind (length c.args.bodies.now) (bodies_of c.args.bodies.now) c.in_ok-edges.edges c.requires.below c.in_ok-edges.ensures.edges)

pub returns : goal.returns
returns c =
    found_read (ConstantEdge c.args.kind (bodies_of c.args.bodies.now)) c.in_ok-edges.edges c.as_slice.result.now (length c.args.bodies.now) c.in_ok-found.found c.in_ok-edges.ensures.edges c.as_slice.ensures c.in_ok-edges.ensures.lists c.in_ok-found.ensures
