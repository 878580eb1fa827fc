use Rattle.std.proofs.Common.{◌<◌, ◌-◌, length, arith, false, true}
use Rattle.std.proofs.lemmas.List.{length-map}
use Rattle.std.proofs.lemmas.List.Elements.{Contains-push}
use Rattle.pepa_resolver.specs.NamedTypes.{named_of, bodies_of}
use Rattle.pepa_checks.proofs.FileWalks.{all_parts, plain_body, body_at, body_there, flag_at, system_first, compound_more, sequential_more}
use Rattle.pepa_checks.proofs.expressions.walk_file.Goals as goal

pub add_components-requires : goal.add_components-requires
add_components-requires c =
    let bodies = bodies_of c.args.file.bodies.now in
    all_parts bodies (named_of c.args.file.system.now) (named_of c.args.file.system.now) c.requires.built.sequential (Contains-push bodies (named_of c.args.file.system.now))

pub loop-left-init : goal.loop-left-init
loop-left-init c =
    let bodies = bodies_of c.args.file.bodies.now in
    system_first c.args.file.compounds.now bodies (named_of c.args.file.system.now) _ c.add_components.new.self c.new-heads.result (length c.args.file.bodies.now) (omega (arith, c.requires.built.one_each, length-map c.args.file.bodies.now named_of)) (omega (arith, length-map c.args.file.bodies.now named_of)) c.new-heads.ensures c.new.ensures.empty c.new-2.ensures c.in_ok-add_components.ensures

pub add_components-requires-then-compounds-left : goal.add_components-requires-then-compounds-left
add_components-requires-then-compounds-left c =
    let bodies = bodies_of c.args.file.bodies.now in
    let low : c.loop-left.left - 1 < length c.args.file.bodies.now = omega (arith, c.loop-left.invariant.within, c.loop-left-test.true, length-map c.args.file.bodies.now named_of) in
    let read = body_at c.args.file.bodies.now (c.loop-left.left - 1) c.index-bodies-left.result low c.index-bodies-left.is in
    all_parts bodies (named_of c.args.file.system.now) (named_of c.index-bodies-left.result) c.requires.built.sequential (body_there bodies (named_of c.args.file.system.now) (named_of c.index-bodies-left.result) (c.loop-left.left - 1) read)

pub loop-left-preserved-in-Continue-branch-2 : goal.loop-left-preserved-in-Continue-branch-2
loop-left-preserved-in-Continue-branch-2 c =
    let bodies = bodies_of c.args.file.bodies.now in
    let low : c.loop-left.left - 1 < length c.args.file.bodies.now = omega (arith, c.loop-left.invariant.within, c.loop-left-test.true, length-map c.args.file.bodies.now named_of) in
    let read = body_at c.args.file.bodies.now (c.loop-left.left - 1) c.index-bodies-left.result low c.index-bodies-left.is in
    let flag = flag_at c.args.file.compounds.now (c.loop-left.left - 1) true (omega (arith, low, c.requires.built.one_each)) c.if-compounds-left.true in
    compound_more c.args.file.compounds.now bodies (named_of c.args.file.system.now) c.loop-left.walk _ c.loop-left.heads c.loop-left.left (named_of c.index-bodies-left.result) c.loop-left-test.true flag read c.loop-left.invariant c.in_ok-add_components-2.ensures

pub add_line-requires : goal.add_line-requires
add_line-requires c =
    let bodies = bodies_of c.args.file.bodies.now in
    let low : c.loop-left.left - 1 < length c.args.file.bodies.now = omega (arith, c.loop-left.invariant.within, c.loop-left-test.true, length-map c.args.file.bodies.now named_of) in
    let read = body_at c.args.file.bodies.now (c.loop-left.left - 1) c.index-bodies-left-else-compounds-left.result low c.index-bodies-left-else-compounds-left.is in
    let flag = flag_at c.args.file.compounds.now (c.loop-left.left - 1) false (omega (arith, low, c.requires.built.one_each)) c.if-compounds-left.false in
    plain_body c.args.file.compounds.now bodies (c.loop-left.left - 1) (named_of c.index-bodies-left-else-compounds-left.result) c.requires.built.table flag read

pub loop-left-preserved : goal.loop-left-preserved
loop-left-preserved c =
    let bodies = bodies_of c.args.file.bodies.now in
    let low : c.loop-left.left - 1 < length c.args.file.bodies.now = omega (arith, c.loop-left.invariant.within, c.loop-left-test.true, length-map c.args.file.bodies.now named_of) in
    let read = body_at c.args.file.bodies.now (c.loop-left.left - 1) c.index-bodies-left-else-compounds-left.result low c.index-bodies-left-else-compounds-left.is in
    let flag = flag_at c.args.file.compounds.now (c.loop-left.left - 1) false (omega (arith, low, c.requires.built.one_each)) c.if-compounds-left.false in
    sequential_more c.args.file.compounds.now bodies (named_of c.args.file.system.now) c.loop-left.walk c.add_line.new.self c.loop-left.heads c.add_line.new.heads c.loop-left.left (named_of c.index-bodies-left-else-compounds-left.result) c.loop-left-test.true flag read c.loop-left.invariant c.in_ok-add_line.ensures
