use Rattle.std.proofs.Common.{arith, sym}
use Rattle.std.proofs.lemmas.List.{take_all}
use Rattle.std.proofs.lemmas.List.Elements.{All-more, All-same}
use Rattle.pepa_rates.specs.Fraction.{IsProper}
use Rattle.pepa_rates.proofs.weighing.all_valid.Goals as goal

pub loop-q-preserved : goal.loop-q-preserved
loop-q-preserved c =
    All-more IsProper c.args.rates.now c.loop-q.q-index c.q-item.result (omega arith) c.loop-q.invariant
    (rw (← c.q-item.is) c.valid.ensures)

pub returns : goal.returns
returns c =
    let rates = c.args.rates.now in
    All-same IsProper rates _ (sym (take_all c.loop-q.q-index rates (omega arith))) c.loop-q.invariant
