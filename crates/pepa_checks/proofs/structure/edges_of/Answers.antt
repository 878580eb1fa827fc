use Rattle.std.proofs.Common.{◌<◌, length, refl, arith}
use Rattle.std.proofs.lemmas.List.{length-map}
use Rattle.pepa_resolver.specs.NamedTypes.{named_of, bodies_of}
use Rattle.node_orders.proofs.EdgeLists.{edges_end}
use Rattle.pepa_checks.specs.StructureAnswers.{ConstantEdge}
use Rattle.pepa_checks.proofs.Bodies.{body_at}
use Rattle.pepa_checks.proofs.EdgeLists.{edges_next, edge_within}
use Rattle.pepa_checks.proofs.structure.edges_of.Goals as goal

pub loop-at-preserved : goal.loop-at-preserved
loop-at-preserved c =
    let bodies = bodies_of c.args.bodies.now in
    let within : c.loop-at.at < length c.args.table.now = omega arith in
    rw (c.in_ok-push.ensures.ok, c.in_ok-list.ensures) (edges_next c.args.kind bodies c.args.table.now c.loop-at.edges c.loop-at.at (named_of c.index-bodies-at.result) _ c.requires.compounds within refl (body_at c.args.bodies.now c.loop-at.at c.index-bodies-at.result c.loop-at-test.true c.index-bodies-at.is) c.loop-at.invariant)

pub returns-clause-edges : goal.returns-clause-edges
returns-clause-edges c =
    let bodies = bodies_of c.args.bodies.now in
    edges_end (ConstantEdge c.args.kind bodies) c.loop-at.edges c.loop-at.at (λ a b edge. omega (arith, edge_within c.args.kind bodies a b edge, length-map c.args.bodies.now named_of)) c.loop-at.invariant
