use Rattle.std.proofs.Common.{◌≡◌, ◌++◌, map, take}
use Rattle.pepa_rates.specs.Weights.{weight_of}
use Rattle.pepa_rates.proofs.weighing.push_each.Given as goal

abbrev pub invariant-loop-q : goal.invariant-loop-q
invariant-loop-q l = l.to.items ≡ l.initial.to.items ++ map (weight_of l.den) (take l.q-index l.rates)
