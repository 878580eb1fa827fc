use Rattle.std.proofs.Common.{subst, sym}
use Rattle.pepa_rates.specs.declared.rate.Rate.{Rate}
use Rattle.pepa_steps.specs.WholeVerdict.{IsPassive}
use Rattle.sim_space.proofs.PassiveRates.{passive_rate, active_rate}
use Rattle.sim_space.proofs.choices.choice_weights.Goals as goal

pub returns-in-Passive : goal.returns-in-Passive
returns-in-Passive c =
    passive_rate c.args.rates.now c.loop-rate.rate-index c.rate-item.result c.loop-rate-test.true c.rate-item.is (subst (λ (r : Rate). IsPassive r) (sym c.in-Passive.is) tt)

pub loop-rate-preserved : goal.loop-rate-preserved
loop-rate-preserved c =
    active_rate c.args.rates.now c.loop-rate.rate-index c.rate-item.result c.in-Active.rate c.loop-rate.active c.push.new.self c.loop-rate-test.true c.rate-item.is c.in-Active.is
    c.loop-rate.invariant c.in_ok-push-in-Active.ensures.ok
