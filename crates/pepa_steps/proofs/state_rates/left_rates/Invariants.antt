-- What has been gone through is in the new map, and what is left isn't yet.
use Rattle.pepa_steps.specs.CooperationRates.{left_rate}
use Rattle.pepa_steps.proofs.MappedRates.{MapKeeps}
use Rattle.pepa_steps.proofs.state_rates.left_rates.Given as goal

abbrev pub invariant-loop-action : goal.invariant-loop-action
invariant-loop-action l = MapKeeps (left_rate l.types l.fn.right.entries) l.fn.left.entries l.all.entries l.action-iterator
