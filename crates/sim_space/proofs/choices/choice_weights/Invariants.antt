use Rattle.std.proofs.Common.{◌≡◌, map, take}
use Rattle.pepa_rates.specs.Sum.{fraction_of}
use Rattle.pepa_steps.specs.WholeVerdict.{HasPassive}
use Rattle.sim_space.proofs.choices.choice_weights.Given as goal

abbrev pub invariant-loop-rate : goal.invariant-loop-rate
invariant-loop-rate l = (l.active ≡ map fraction_of (take l.rate-index l.rates)) × (¬ HasPassive (take l.rate-index l.rates))
