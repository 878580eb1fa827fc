use Rattle.std.proofs.Common.{◌≡◌, ◌<◌, ◌∙◌, [], ◌∷◌, ◌++◌, refl, length, ap, map, Some, false, get_or, arith}
use Rattle.std.proofs.lemmas.List.{length-map, map_push}
use Rattle.std.proofs.lemmas.Option.{slice_get-get_or, slice_get_read}
use Rattle.indexmap.specs.IndexMap.{keys}
use Rattle.pepa_model.specs.Expression.{Definition, definition_of}
use Rattle.pepa_resolver.specs.NamedTypes.{named_of}
use Rattle.pepa_checks.proofs.Bodies.{body_at}
use Rattle.pepa_checks.proofs.DefinitionLists.{definitions_more}
use Rattle.pepa_checks.proofs.shapes.definitions.Goals as goal

pub body_of-requires-clause-sequential : goal.body_of-requires-clause-sequential
body_of-requires-clause-sequential c =
    c.requires.bodies.parts c.loop-number.number (named_of c.index-bodies-number.result) (body_at c.args.file.bodies.now c.loop-number.number c.index-bodies-number.result c.loop-number-test.true c.index-bodies-number.is)

pub body_of-requires-clause-plain : goal.body_of-requires-clause-plain
body_of-requires-clause-plain c plain =
    let lt : c.loop-number.number < length c.args.file.bodies.now = c.loop-number-test.true in
    let within : c.loop-number.number < length c.args.file.compounds.now = omega (arith, length-map c.args.file.bodies.now named_of, c.requires.one_each) in
    c.requires.bodies.plain c.loop-number.number (named_of c.index-bodies-number.result) (body_at c.args.file.bodies.now c.loop-number.number c.index-bodies-number.result lt c.index-bodies-number.is)
    (slice_get-get_or c.args.file.compounds.now c.loop-number.number false within ∙ ap Some plain)

pub loop-number-preserved : goal.loop-number-preserved
loop-number-preserved c =
    let n = c.loop-number.number in
    let compounds = c.args.file.compounds.now in
    let bodies = c.args.file.bodies.now in
    let lt : n < length bodies = c.loop-number-test.true in
    let one_each : length compounds ≡ length bodies = c.requires.one_each in
    let within : n < length compounds = omega arith in
    let flag = get_or compounds n false in
    let more = definitions_more compounds (keys c.args.sets.now) compounds bodies n flag c.index-bodies-number.result (map definition_of c.loop-number.made) one_each
    (slice_get-get_or compounds n false within)
    (slice_get_read bodies (length bodies) n c.index-bodies-number.result refl lt c.index-bodies-number.is)
    c.loop-number.invariant in
    ap (map definition_of) c.in_ok-push.ensures.ok ∙ map_push definition_of c.loop-number.made c.in_ok-body.body
    ∙ ap (λ (d : Definition). map definition_of c.loop-number.made ++ d ∷ []) c.in_ok-body.ensures ∙ more
