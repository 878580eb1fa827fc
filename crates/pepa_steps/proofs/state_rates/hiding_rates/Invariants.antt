-- What has been gone through is in the new map, and what is left isn't yet.
use Rattle.pepa_steps.proofs.MappedRates.{MapKeeps, hide}
use Rattle.pepa_steps.proofs.state_rates.hiding_rates.Given as goal

abbrev pub invariant-loop-action : goal.invariant-loop-action
invariant-loop-action l = MapKeeps (hide l.types) l.fn.inner.entries l.seen.entries l.action-iterator
