use Rattle.std.proofs.Common.{Ok, ◌≡◌, ◌∷◌, [], ◌++◌, List, All, map, sym, ap, ◌∙◌, subst, arith}
use Rattle.std.proofs.lemmas.List.Elements.{All-push}
use Rattle.pepa_rates.specs.Fraction.{Fraction, IsProper}
use Rattle.pepa_rates.specs.Sum.{fraction_of}
use Rattle.pepa_rates.specs.Weights.{weights_of, IsScaleOf}
use Rattle.pepa_rates.specs.declared.rate.Rate.{Rate}
use Rattle.pepa_steps.specs.WholeVerdict.{IsPassive, HasPassive}
use Rattle.sim_space.specs.LoadedLists.{fractions_in}
use Rattle.plain_space.proofs.Weighing.{passive_entry, active_entry, all_rates, fractions_are}
use Rattle.plain_space.proofs.lists.weigh.Goals as goal

pub returns-in-Passive : goal.returns-in-Passive
returns-in-Passive c =
    passive_entry c.args.entries.now c.loop-entry.entry-index c.entry-item.result c.loop-entry-test.true c.entry-item.is (subst (λ (r : Rate). IsPassive r) (sym c.in-Passive.is) tt)

pub loop-entry-preserved : goal.loop-entry-preserved
loop-entry-preserved c =
    let inv = c.loop-entry.invariant in
    let pushed : c.push.new.self.items ≡ c.loop-entry.rates.items ++ c.in-Active.rate ∷ [] = c.in-Ok.ensures.items in
    let more = active_entry c.args.entries.now c.loop-entry.entry-index c.entry-item.result c.in-Active.rate c.loop-entry.rates.items c.push.new.self.items c.loop-entry-test.true
    c.entry-item.is c.in-Active.is inv.rates_are inv.active pushed in
    record {
      rates_are = more.0;
      active = more.1;
      proper = subst (λ (l : List Fraction). All IsProper l) (sym pushed) (All-push IsProper c.loop-entry.rates.items c.in-Active.rate inv.proper c.valid.ensures);
      none = inv.none;
    }

pub returns-in-Ok-push_weights : goal.returns-in-Ok-push_weights
returns-in-Ok-push_weights c =
    let inv = c.loop-entry.invariant in
    let entries = c.args.entries.now in
    let all = all_rates entries c.loop-entry.entry-index (omega arith) in
    let rates : c.loop-entry.rates.items ≡ fractions_in entries = inv.rates_are ∙ ap (map fraction_of) all ∙ fractions_are entries in
    let sliced : c.as_slice.result.now ≡ fractions_in entries = c.as_slice.ensures.value ∙ rates in
    let e = c.in-Ok-push_weights.ensures in (
      record {
        active = subst (λ (l : List Rate). ¬ HasPassive l) all inv.active;
        rates_are = rates;
        each_are = e.each ∙ ap (λ (l : List _). l ++ weights_of c.as_slice.result.now) inv.none ∙ ap weights_of sliced;
        proper = inv.proper;
      },
      subst (λ (l : List Fraction). IsScaleOf l (Ok c.in-Ok-push_weights.scale)) sliced e.scale,
    )
