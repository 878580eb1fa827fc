use Rattle.std.proofs.Common.{List, refl, sym, ap, true, ℕ, ◌≡◌, subst}
use Rattle.std.proofs.lemmas.Result.{err_from_is_err_and}
use Rattle.std.proofs.lemmas.List.{take_all}
use Rattle.pepa_steps.specs.Moves.{has, joint_moves}
use Rattle.pepa_steps.specs.Combined.{numbered, rate_at}
use Rattle.pepa_steps.specs.declared.entries.Entry.{Entry}
use Rattle.pepa_steps.specs.declared.entries.Origin.TheVariants.{Both}
use Rattle.pepa_steps.proofs.TakenEntries.{at_place, numbered_more, no_places}
use Rattle.pepa_steps.proofs.CombinedLists.{has_none, has_same, nothing_joined, joins, joins_none, joins_same, joining_stops}
use Rattle.pepa_steps.proofs.combining.push_joint.Goals as goal
use Rattle.pepa_steps.proofs.combining.push_joint.Goals.{then-is_in+in-Some+in_ok-push_partners, then-is_in+in_default, else-is_in}

pub loop-index-init : goal.loop-index-init
loop-index-init c = has_none c.args.derived.now c.args.derived.now _ refl refl

pub push_partners-requires-clause-ours_rated : goal.push_partners-requires-clause-ours_rated
push_partners-requires-clause-ours_rated c =
    c.requires.ours_rated c.index-ours-index.result (c.loop-index.index, c.loop-index-test.true, sym c.index-ours-index.is) (sym c.if-is_in.ensures)

pub push_partners-requires-clause-theirs_rated : goal.push_partners-requires-clause-theirs_rated
push_partners-requires-clause-theirs_rated c = λ e among same. c.requires.theirs_rated e among (subst (λ (a : ℕ). has c.args.types.now a ≡ true) same (sym c.if-is_in.ensures))

pub returns-in_err-push_partners : goal.returns-in_err-push_partners
returns-in_err-push_partners c =
    let p = err_from_is_err_and c.from_residual.result c.from_residual.ensures.1 in
    rw (p.1, p.2)
    (joining_stops c.args.types.now c.args.our_rates.now.entries c.args.their_rates.now.entries c.args.ours.now (numbered 0 c.args.theirs.now) c.loop-index.index c.index-ours-index.result
    c.args.derived.now c.loop-index.derived c.push_partners.new.derived _ c.loop-index-test.true c.index-ours-index.is (sym c.if-is_in.ensures)
    c.in_err-push_partners.ensures)

pub loop-index-preserved : goal.loop-index-preserved
loop-index-preserved c =
    let grows = numbered_more c.args.ours.now c.loop-index.index c.index-ours-index.result c.loop-index-test.true c.index-ours-index.is in
    elim c.if-is_in.branch [
      | then-is_in+in-Some+in_ok-push_partners w ↦
          rw w.derived-is
          (joins c.args.types.now c.args.our_rates.now.entries c.args.their_rates.now.entries _ _ _ (numbered 0 c.args.theirs.now) grows c.args.derived.now c.loop-index.derived c.loop-index.invariant w.push_partners.new.derived
          (sym w.if-is_in.ensures) w.in_ok-push_partners.ensures)
      | then-is_in+in_default w ↦
          rw w.derived-is
          (joins_none c.args.types.now c.args.our_rates.now.entries c.args.their_rates.now.entries _ _ _ (numbered 0 c.args.theirs.now) grows c.args.derived.now c.loop-index.derived c.loop-index.invariant
          (sym w.if-is_in.ensures)
          (nothing_joined c.args.our_rates.now.entries c.args.their_rates.now.entries (at_place c.loop-index.index c.index-ours-index.result) (numbered 0 c.args.theirs.now)
          (no_places c.args.types.now (numbered 0 c.args.theirs.now) _ _ c.requires.partners (sym w.if-is_in.ensures) w.in_default.ensures.value)))
      | else-is_in w ↦
          rw w.derived-is
          (joins_same c.args.types.now c.args.our_rates.now.entries c.args.their_rates.now.entries _ _ _ (numbered 0 c.args.theirs.now) grows c.args.derived.now c.loop-index.derived c.loop-index.invariant
          (sym w.if-is_in.ensures))
    ]

pub returns : goal.returns
returns c =
    has_same c.args.derived.now c.loop-index.derived _ _
    (ap (λ (es : List Entry). joint_moves Both c.args.types.now (rate_at c.args.our_rates.now.entries) (rate_at c.args.their_rates.now.entries) (numbered 0 es) (numbered 0 c.args.theirs.now))
    (take_all _ c.args.ours.now c.loop-index-test.false))
    c.loop-index.invariant
