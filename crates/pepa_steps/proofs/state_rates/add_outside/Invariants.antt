-- What is so far, and what is left of the types outside the set, come to the whole.
use Rattle.pepa_steps.specs.CooperationRates.{rates_outside}
use Rattle.pepa_steps.proofs.RateMaps.{LoopKeeps}
use Rattle.pepa_steps.proofs.state_rates.add_outside.Given as goal

abbrev pub invariant-loop-action : goal.invariant-loop-action
invariant-loop-action l = LoopKeeps l.fn.first.entries (rates_outside l.types l.fn.others.entries) l.all.entries (rates_outside l.types l.action-iterator)
