use Rattle.std.proofs.Common.{◌≡◌, ◌<◌, ◌^◌, sum_by, take}
use Rattle.pepa_rates.specs.Weights.{weight_of}
use Rattle.pepa_rates.proofs.weighing.whole_weight.Given as goal

abbrev pub invariant-loop-q : goal.invariant-loop-q
invariant-loop-q l = (l.whole < 2 ^ 62) × (l.whole ≡ sum_by (weight_of l.den) (take l.q-index l.rates))
