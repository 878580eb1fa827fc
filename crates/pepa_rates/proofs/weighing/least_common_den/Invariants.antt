use Rattle.std.proofs.Common.{◌≡◌, ◌<◌, ◌^◌, take}
use Rattle.pepa_rates.specs.Weights.{common_den}
use Rattle.pepa_rates.proofs.weighing.least_common_den.Given as goal

abbrev pub invariant-loop-q : goal.invariant-loop-q
invariant-loop-q l = (0 < l.common) × (l.common < 2 ^ 62) × (l.common ≡ common_den (take l.q-index l.rates))
