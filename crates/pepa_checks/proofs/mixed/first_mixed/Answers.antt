use Rattle.std.proofs.Common.{subst, length, refl, arith, List}
use Rattle.std.proofs.lemmas.Option.{slice_get_within, slice_get_read, MatchOption-at_none}
use Rattle.pepa_model.specs.PepaModel.{AreUnmixed}
use Rattle.pepa_checks.specs.declared.summand.Performed.{Performed}
use Rattle.pepa_checks.specs.MixedLists.{activities, IsFirstMixedOf}
use Rattle.pepa_checks.proofs.ActivityKinds.{unmixed_lists}
use Rattle.pepa_checks.proofs.mixed.first_mixed.Goals as goal

pub loop-number-preserved : goal.loop-number-preserved
loop-number-preserved c =
    let here = c.index-lists-number.result in
    let unmixed = MatchOption-at_none (AreUnmixed (activities c.as_slice.result.now)) (IsFirstMixedOf c.as_slice.result.now) c.in_default.is c.in_ok-at.ensures in
    unmixed_lists c.args.lists.now c.loop-number.number here c.loop-number.invariant
    (slice_get_read c.args.lists.now (length c.args.lists.now) c.loop-number.number here refl c.loop-number-test.true c.index-lists-number.is)
    (subst (λ (l : List Performed). AreUnmixed (activities l)) c.as_slice.ensures unmixed)

pub returns : goal.returns
returns c = λ number list is. c.loop-number.invariant number list (let low = slice_get_within c.args.lists.now number list is in omega arith) is
