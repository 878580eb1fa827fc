use Rattle.std.proofs.Common.{◌≡◌, take}
use Rattle.sim_command.specs.FirstSteps.{step_rates}
use Rattle.sim_command.proofs.model_steps.rates_of.Given as goal

abbrev pub invariant-loop-step : goal.invariant-loop-step
invariant-loop-step l = l.rates ≡ step_rates (take l.step-index l.steps)
