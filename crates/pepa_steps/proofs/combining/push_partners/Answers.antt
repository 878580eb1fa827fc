use Rattle.std.proofs.Common.{refl, ◌∙◌}
use Rattle.std.proofs.lemmas.Result.{err_from_is_err_and}
use Rattle.pepa_steps.specs.Combined.{numbered}
use Rattle.pepa_steps.proofs.TakenEntries.{at_place}
use Rattle.pepa_steps.proofs.CombinedLists.{joint_at, in_bounds, right_kind, has_none, made_at, origin_at, range_at, range_of, adds_joint, joined_all, joint_ends, none_joined}
use Rattle.pepa_steps.proofs.combining.push_partners.Goals as goal

pub returns-in_default-get : goal.returns-in_default-get
returns-in_default-get c =
    has_none c.args.derived.now c.args.derived.now _ (none_joined c.args.our_rates.now.entries _ (at_place c.args.place c.args.entry) c.args.theirs.now c.in_default-get.ensures.value c.requires.theirs_rated) refl

pub loop-index-init : goal.loop-index-init
loop-index-init c = has_none c.args.derived.now c.args.derived.now _ refl refl

pub bounds-theirs-index : goal.bounds-theirs-index
bounds-theirs-index c =
    in_bounds c.args.entry.action c.loop-index.index-index c.args.theirs.now _ (c.as_slice-index-items.ensures ∙ c.requires.places) c.loop-index-test.true

pub joint_entry-requires-clause-theirs : goal.joint_entry-requires-clause-theirs
joint_entry-requires-clause-theirs c =
    right_kind c.args.their_rates.now.entries c.args.entry.action c.loop-index.index-index c.args.theirs.now c.index-theirs-index.result _ _
    (c.as_slice-index-items.ensures ∙ c.requires.places) c.loop-index-test.true c.index-theirs-index.is c.requires.theirs_rated c.in-Some-get.ensures.value

pub returns-in_err-both : goal.returns-in_err-both
returns-in_err-both c =
    let is = c.as_slice-index-items.ensures ∙ c.requires.places in
    let below = in_bounds c.args.entry.action c.loop-index.index-index c.args.theirs.now _ is c.loop-index-test.true in
    let p = err_from_is_err_and c.from_residual.result c.from_residual.ensures.1 in
    rw (p.1, p.2)
    (joint_ends _ _ (at_place c.args.place c.args.entry) (numbered 0 c.args.theirs.now) c.in-Some.our_rate.now c.in-Some-get.their_rate.now c.as_slice-index-items.result.now
    c.in-Some.ensures.value c.in-Some-get.ensures.value is c.args.derived.now c.loop-index.derived c.loop-index.index-index c.args.entry c.index-theirs-index.result _ c.loop-index-test.true
    (range_at c.args.place c.args.entry c.in-Some.our_rate.now c.in-Some-get.their_rate.now c.args.theirs.now _ c.index-theirs-index.result below c.index-theirs-index.is)
    c.in_err-both.ensures)

pub loop-index-preserved : goal.loop-index-preserved
loop-index-preserved c =
    let is = c.as_slice-index-items.ensures ∙ c.requires.places in
    let below = in_bounds c.args.entry.action c.loop-index.index-index c.args.theirs.now _ is c.loop-index-test.true in
    adds_joint (joint_at c.in-Some.our_rate.now c.in-Some-get.their_rate.now (at_place c.args.place c.args.entry) (numbered 0 c.args.theirs.now))
    c.args.derived.now c.loop-index.derived c.push_one.new.derived c.as_slice-index-items.result.now c.loop-index.index-index _ _ c.loop-index-test.true
    (made_at c.args.place c.args.entry c.in-Some.our_rate.now c.in-Some-get.their_rate.now c.args.theirs.now _ c.index-theirs-index.result _ below c.index-theirs-index.is c.in_ok-both.ensures)
    (origin_at c.args.place c.args.entry c.in-Some.our_rate.now c.in-Some-get.their_rate.now c.args.theirs.now _ c.index-theirs-index.result below c.index-theirs-index.is)
    c.loop-index.invariant c.in_ok-push_one.ensures.entries c.in_ok-push_one.ensures.origins
    (range_of c.args.place c.args.entry c.in-Some.our_rate.now c.in-Some-get.their_rate.now c.args.theirs.now _ c.index-theirs-index.result below c.index-theirs-index.is c.in_ok-both.ensures.1)

pub returns : goal.returns
returns c =
    joined_all _ _ (at_place c.args.place c.args.entry) (numbered 0 c.args.theirs.now) c.in-Some.our_rate.now c.in-Some-get.their_rate.now c.as_slice-index-items.result.now
    c.in-Some.ensures.value c.in-Some-get.ensures.value (c.as_slice-index-items.ensures ∙ c.requires.places) c.args.derived.now c.loop-index.derived c.loop-index.index-index c.loop-index-test.false c.loop-index.invariant
