-- Each entry goes over unless its type is hidden.
use Rattle.std.proofs.Common.{◌≡◌, ℕ, true, false, List, rules, subst}
use Rattle.pepa_rates.specs.declared.rate.Rate.{Rate}
use Rattle.pepa_model.specs.Apparent.{Rated}
use Rattle.pepa_steps.specs.States.{has}
use Rattle.pepa_steps.proofs.MappedRates.{MapKeeps, puts, skips, hide, hidden, seen}
use Rattle.pepa_steps.proofs.state_rates.hiding_rates.Goals as goal

pub loop-action-preserved-in-Continue-1 : goal.loop-action-preserved-in-Continue-1
loop-action-preserved-in-Continue-1 c =
    let is : has c.args.types.now c.in-Some.action.now ≡ false = search rules in
    puts _ _ _ _ _ _ _ _
    (subst (λ (rest : List (ℕ × Rate)). MapKeeps (hide c.args.types.now) c.args.inner.now.entries c.loop-action.seen.entries rest) c.in-Some.ensures.steps c.loop-action.invariant)
    (seen c.args.types.now c.in-Some.action.now (Rated c.in-Some.rate.now) is)
    c.in_ok-set_rate.ensures

pub loop-action-preserved : goal.loop-action-preserved
loop-action-preserved c =
    let is : has c.args.types.now c.in-Some.action.now ≡ true = search rules in
    skips _ _ _ _ _ _
    (subst (λ (rest : List (ℕ × Rate)). MapKeeps (hide c.args.types.now) c.args.inner.now.entries c.loop-action.seen.entries rest) c.in-Some.ensures.steps c.loop-action.invariant)
    (hidden c.args.types.now c.in-Some.action.now (Rated c.in-Some.rate.now) is)
