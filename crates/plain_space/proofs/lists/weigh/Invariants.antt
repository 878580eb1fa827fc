use Rattle.std.proofs.Common.{◌≡◌, [], All, map, take}
use Rattle.pepa_rates.specs.Fraction.{IsProper}
use Rattle.pepa_rates.specs.Sum.{fraction_of}
use Rattle.pepa_steps.specs.WholeVerdict.{HasPassive}
use Rattle.plain_space.specs.PlainLists.{rates_listed}
use Rattle.plain_space.proofs.lists.weigh.Given as goal

abbrev pub invariant-loop-entry : goal.invariant-loop-entry
invariant-loop-entry l = record {
  rates_are : l.rates.items ≡ map fraction_of (take l.entry-index (rates_listed l.entries));
  active : ¬ HasPassive (take l.entry-index (rates_listed l.entries));
  proper : All IsProper l.rates.items;
  none : l.each.items ≡ [];
}
