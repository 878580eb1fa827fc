use Rattle.std.proofs.Common.{subst, sym, take, arith}
use Rattle.std.proofs.lemmas.List.{length-map, take_all}
use Rattle.pepa_resolver.specs.NamedTypes.{named_of, bodies_of}
use Rattle.pepa_resolver.specs.Finding.{FindsLeast, lesser_index}
use Rattle.pepa_checks.proofs.Bodies.{body_at}
use Rattle.node_orders.proofs.Elements.{take_next}
use Rattle.pepa_checks.proofs.Sequentials.{SoFarAt, so_far_begin, so_far_more, so_far_end}
use Rattle.pepa_checks.proofs.structure.first_not_sequential.Goals as goal

pub loop-at-init : goal.loop-at-init
loop-at-init c =
    let bodies = bodies_of c.args.bodies.now in
    so_far_begin bodies (named_of c.args.system.now) c.parts_of-found.result.least (c.parts_of-found.ensures bodies c.requires).least_is

pub loop-at-preserved : goal.loop-at-preserved
loop-at-preserved c =
    let bodies = bodies_of c.args.bodies.now in
    let system = named_of c.args.system.now in
    let body = named_of c.index-bodies-at.result in
    let read = body_at c.args.bodies.now c.loop-at.at c.index-bodies-at.result c.loop-at-test.true c.index-bodies-at.is in
    rw c.least-found.ensures
    (subst (λ some. FindsLeast (SoFarAt bodies some system) (lesser_index c.loop-at.found c.parts_of.result.least)) (sym (take_next bodies c.loop-at.at body read))
    (so_far_more bodies (take c.loop-at.at bodies) system body c.loop-at.found c.parts_of.result.least c.loop-at.invariant (c.parts_of.ensures bodies c.requires).least_is))

pub returns : goal.returns
returns c =
    let bodies = bodies_of c.args.bodies.now in
    let system = named_of c.args.system.now in
    so_far_end bodies system c.loop-at.found
    (subst (λ some. FindsLeast (SoFarAt bodies some system) c.loop-at.found) (take_all c.loop-at.at bodies (omega (arith, length-map c.args.bodies.now named_of))) c.loop-at.invariant)
