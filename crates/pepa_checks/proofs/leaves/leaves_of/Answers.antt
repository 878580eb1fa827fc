use Rattle.std.proofs.Common.{◌≡◌, ◌∙◌, sym, refl, length, arith}
use Rattle.std.proofs.lemmas.List.{length-map}
use Rattle.pepa_resolver.specs.NamedTypes.{named_of, bodies_of}
use Rattle.pepa_checks.proofs.WrittenLeaves.{written_plain}
use Rattle.pepa_checks.proofs.LeafLoops.{heads_more, heads_end, heads_few, candidate_plain, candidates_more, too_many}
use Rattle.pepa_checks.proofs.LeafAnswers.{leaves_found}
use Rattle.pepa_checks.proofs.leaves.leaves_of.Goals as goal

pub loop-head-preserved : goal.loop-head-preserved
loop-head-preserved c =
    heads_more c.args.file.compounds.now (bodies_of c.args.file.bodies.now) (named_of c.args.file.system.now) c.loop-head.table c.add_head.new.self c.loop-head.heads c.pop.new.self c.in-Some.head _ c.loop-head.invariant c.in-Some.ensures c.in_ok-add_head.ensures

pub loop-candidate-init : goal.loop-candidate-init
loop-candidate-init c =
    let bodies = bodies_of c.args.file.bodies.now in
    let system = named_of c.args.file.system.now in (
      heads_end c.args.file.compounds.now bodies system c.loop-head.table c.loop-head.heads _ c.loop-head.invariant c.in_default.ensures.0,
      heads_few c.args.file.compounds.now bodies system c.loop-head.table c.loop-head.heads _ c.loop-head.invariant (omega (arith, c.requires.built.few)),
    )

pub add_candidate-requires : goal.add_candidate-requires
add_candidate-requires c =
    let bodies = bodies_of c.args.file.bodies.now in
    let system = named_of c.args.file.system.now in
    let sizes : length c.args.file.compounds.now ≡ length bodies = c.requires.built.one_each in
    candidate_plain c.args.file.compounds.now bodies system sizes (written_plain c.args.file.compounds.now bodies system c.requires.built.table c.requires.built.sequential) c.loop-candidate.table c.loop-candidate.candidates c.pop-in-loop-candidate.new.self c.in-Some-pop.candidate c.loop-candidate.invariant.0 c.in-Some-pop.ensures

pub returns-then-len-gt-MAX_LEAVES : goal.returns-then-len-gt-MAX_LEAVES
returns-then-len-gt-MAX_LEAVES c = λ sets.
    let bodies = bodies_of c.args.file.bodies.now in
    let system = named_of c.args.file.system.now in
    let sizes : length c.args.file.compounds.now ≡ length bodies = c.requires.built.one_each in
    let more = candidates_more c.args.file.compounds.now bodies system sizes (written_plain c.args.file.compounds.now bodies system c.requires.built.table c.requires.built.sequential) c.loop-candidate.table c.add_candidate.new.self c.loop-candidate.candidates c.pop-in-loop-candidate.new.self c.in-Some-pop.candidate c.loop-candidate.invariant.0 c.in-Some-pop.ensures c.in_ok-add_candidate.ensures in
    too_many c.args.file.compounds.now bodies system sets c.add_candidate.new.self c.pop-in-loop-candidate.new.self more (omega (arith, c.if-len-gt-MAX_LEAVES.true, c.len.ensures.len))

pub loop-candidate-preserved : goal.loop-candidate-preserved
loop-candidate-preserved c =
    let bodies = bodies_of c.args.file.bodies.now in
    let system = named_of c.args.file.system.now in
    let sizes : length c.args.file.compounds.now ≡ length bodies = c.requires.built.one_each in (
      candidates_more c.args.file.compounds.now bodies system sizes (written_plain c.args.file.compounds.now bodies system c.requires.built.table c.requires.built.sequential) c.loop-candidate.table c.add_candidate.new.self c.loop-candidate.candidates c.pop-in-loop-candidate.new.self c.in-Some-pop.candidate c.loop-candidate.invariant.0 c.in-Some-pop.ensures c.in_ok-add_candidate.ensures,
      omega (arith, c.if-len-gt-MAX_LEAVES.false, c.len.ensures.len),
    )

pub returns : goal.returns
returns c = λ sets.
    let bodies = bodies_of c.args.file.bodies.now in
    let system = named_of c.args.file.system.now in
    let sizes : length c.args.file.compounds.now ≡ length bodies = c.requires.built.one_each in
    leaves_found c.args.file.compounds.now bodies system sets c.loop-candidate.table c.loop-candidate.candidates _ sizes c.loop-candidate.invariant.0 c.in_default-pop.ensures.0 c.loop-candidate.invariant.1 refl c.in_ok-summands.ensures c.in_ok-constants.ensures
