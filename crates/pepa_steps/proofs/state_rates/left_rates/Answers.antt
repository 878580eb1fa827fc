-- Each entry of the left side goes over as it is, as the lesser of both sides' rates, or not at all.
use Rattle.std.proofs.Common.{◌≡◌, ℕ, true, false, List, rules, subst, sym, ap, ◌∙◌}
use Rattle.pepa_rates.specs.declared.rate.Rate.{Rate}
use Rattle.pepa_model.specs.Apparent.{NoRate, Rated}
use Rattle.pepa_steps.specs.States.{has}
use Rattle.pepa_steps.specs.ActionRates.{rate_in}
use Rattle.pepa_steps.specs.CooperationRates.{left_rate}
use Rattle.pepa_steps.proofs.MappedRates.{MapKeeps, puts, skips, left_alone, left_jointly}
use Rattle.pepa_steps.proofs.state_rates.left_rates.Goals as goal

pub loop-action-preserved-in-Continue-1 : goal.loop-action-preserved-in-Continue-1
loop-action-preserved-in-Continue-1 c =
    let is : has c.args.types.now c.in-Some.action.now ≡ false = search rules in
    puts _ _ _ _ _ _ _ _
    (subst (λ (rest : List (ℕ × Rate)). MapKeeps (left_rate c.args.types.now c.args.right.now.entries) c.args.left.now.entries c.loop-action.all.entries rest)
    c.in-Some.ensures.steps c.loop-action.invariant)
    (left_alone c.args.types.now c.args.right.now.entries c.in-Some.action.now (Rated c.in-Some.rate.now) is)
    c.in_ok-set_rate.ensures

pub loop-action-preserved-in-Continue-branch-2 : goal.loop-action-preserved-in-Continue-branch-2
loop-action-preserved-in-Continue-branch-2 c =
    let is : has c.args.types.now c.in-Some.action.now ≡ true = search rules in
    let other : rate_in c.args.right.now.entries c.in-Some.action.now ≡ Rated c.in-Some-get.other.now = search rules in
    puts _ _ _ _ _ _ _ _
    (subst (λ (rest : List (ℕ × Rate)). MapKeeps (left_rate c.args.types.now c.args.right.now.entries) c.args.left.now.entries c.loop-action.all.entries rest)
    c.in-Some.ensures.steps c.loop-action.invariant)
    (left_jointly c.args.types.now c.args.right.now.entries c.in-Some.action.now (Rated c.in-Some.rate.now) (Rated c.in-Some-get.other.now) is other ∙ ap (λ (r : Rate). Rated r) (sym c.least.ensures))
    c.in_ok-set_rate-2.ensures

pub loop-action-preserved : goal.loop-action-preserved
loop-action-preserved c =
    let is : has c.args.types.now c.in-Some.action.now ≡ true = search rules in
    let none : rate_in c.args.right.now.entries c.in-Some.action.now ≡ NoRate = search rules in
    skips _ _ _ _ _ _
    (subst (λ (rest : List (ℕ × Rate)). MapKeeps (left_rate c.args.types.now c.args.right.now.entries) c.args.left.now.entries c.loop-action.all.entries rest)
    c.in-Some.ensures.steps c.loop-action.invariant)
    (left_jointly c.args.types.now c.args.right.now.entries c.in-Some.action.now (Rated c.in-Some.rate.now) NoRate is none)
