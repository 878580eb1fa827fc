use Rattle.std.proofs.Common.{All, take}
use Rattle.pepa_rates.specs.Fraction.{IsProper}
use Rattle.pepa_rates.proofs.weighing.all_valid.Given as goal

abbrev pub invariant-loop-q : goal.invariant-loop-q
invariant-loop-q l = All IsProper (take l.q-index l.rates)
