-- Each entry by a type outside the set is added, and the others are passed over.
use Rattle.std.proofs.Common.{◌≡◌, ℕ, true, false, List, map, rules, subst, ap, ◌∙◌}
use Rattle.std.specs.Ordering.{nat_cmp}
use Rattle.std.specs.List.Sorted.{IsStrictlySortedBy}
use Rattle.std.proofs.lemmas.Result.{err_from_is_err_and}
use Rattle.pepa_rates.specs.declared.rate.Rate.{Rate}
use Rattle.pepa_steps.specs.States.{has}
use Rattle.pepa_steps.specs.CooperationRates.{rates_outside}
use Rattle.pepa_steps.proofs.RateMaps.{LoopKeeps, keeps, stops}
use Rattle.pepa_steps.proofs.OutsideRates.{begins_outside, outside_head, outside_tail}
use Rattle.pepa_steps.proofs.state_rates.add_outside.Goals as goal

pub loop-action-init : goal.loop-action-init
loop-action-init c =
    let ordered : IsStrictlySortedBy nat_cmp (map (λ e. e.0) c.args.others.now.entries) = search rules in
    let same : c.args.others.now.entries ≡ c.into_iter-action-iterator.result = search rules in
    subst (λ (rest : List (ℕ × Rate)). LoopKeeps c.args.first.entries (rates_outside c.args.types.now c.args.others.now.entries) c.args.first.entries (rates_outside c.args.types.now rest)) same
    (begins_outside _ _ _ c.requires.fine ordered)

pub loop-action-preserved-in-Continue-1 : goal.loop-action-preserved-in-Continue-1
loop-action-preserved-in-Continue-1 c =
    let is : has c.args.types.now c.in-Some.action.now ≡ false = search rules in
    keeps _ _ _ _ _ _ _
    (subst (λ (rest : List (ℕ × Rate)). LoopKeeps c.args.first.entries (rates_outside c.args.types.now c.args.others.now.entries) c.loop-action.all.entries rest)
    (ap (rates_outside c.args.types.now) c.in-Some.ensures.steps ∙ outside_head c.args.types.now _ _ _ is)
    c.loop-action.invariant)
    c.in_ok-add_rate.ensures

pub loop-action-preserved : goal.loop-action-preserved
loop-action-preserved c =
    let is : has c.args.types.now c.in-Some.action.now ≡ true = search rules in
    subst (λ (rest : List (ℕ × Rate)). LoopKeeps c.args.first.entries (rates_outside c.args.types.now c.args.others.now.entries) c.loop-action.all.entries rest)
    (ap (rates_outside c.args.types.now) c.in-Some.ensures.steps ∙ outside_tail c.args.types.now _ _ _ is)
    c.loop-action.invariant

pub returns-in_err-add_rate : goal.returns-in_err-add_rate
returns-in_err-add_rate c =
    let is : has c.args.types.now c.in-Some.action.now ≡ false = search rules in
    let p = err_from_is_err_and c.from_residual.result c.from_residual.ensures.1 in
    rw (p.1, p.2)
    (stops _ _ _ _ _ _ c.add_rate.new.rates.entries _
    (subst (λ (rest : List (ℕ × Rate)). LoopKeeps c.args.first.entries (rates_outside c.args.types.now c.args.others.now.entries) c.loop-action.all.entries rest)
    (ap (rates_outside c.args.types.now) c.in-Some.ensures.steps ∙ outside_head c.args.types.now _ _ _ is)
    c.loop-action.invariant)
    c.in_err-add_rate.ensures)
