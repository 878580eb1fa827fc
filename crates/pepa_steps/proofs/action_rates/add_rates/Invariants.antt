use Rattle.pepa_steps.proofs.RateMaps.{LoopKeeps}
use Rattle.pepa_steps.proofs.action_rates.add_rates.Given as goal

abbrev pub invariant-loop-action : goal.invariant-loop-action
invariant-loop-action l = LoopKeeps l.fn.first.entries l.fn.others.entries l.all.entries l.action-iterator
