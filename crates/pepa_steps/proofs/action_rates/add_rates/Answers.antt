use Rattle.std.proofs.Common.{subst, ℕ, List}
use Rattle.std.proofs.lemmas.Result.{err_from_is_err_and}
use Rattle.pepa_rates.specs.declared.rate.Rate.{Rate}
use Rattle.pepa_steps.proofs.RateMaps.{LoopKeeps, keeps, stops}
use Rattle.pepa_steps.proofs.action_rates.add_rates.Goals as goal

pub loop-action-preserved : goal.loop-action-preserved
loop-action-preserved c =
    keeps _ _ _ _ _ _ _
    (subst (λ (rest : List (ℕ × Rate)). LoopKeeps c.args.first.entries c.args.others.entries c.loop-action.all.entries rest) c.in-Some.ensures.steps c.loop-action.invariant)
    c.in_ok-add_rate.ensures

pub returns-in_err-add_rate : goal.returns-in_err-add_rate
returns-in_err-add_rate c =
    let p = err_from_is_err_and c.from_residual.result c.from_residual.ensures.1 in
    rw (p.1, p.2)
    (stops _ _ _ _ _ _ c.add_rate.new.rates.entries _
    (subst (λ (rest : List (ℕ × Rate)). LoopKeeps c.args.first.entries c.args.others.entries c.loop-action.all.entries rest) c.in-Some.ensures.steps c.loop-action.invariant)
    c.in_err-add_rate.ensures)
