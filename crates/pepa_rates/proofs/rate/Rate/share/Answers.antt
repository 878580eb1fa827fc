use Rattle.std.proofs.Common.{sym, ◌∙◌, ap, subst}
use Rattle.pepa_rates.specs.Fraction.{InRange}
use Rattle.pepa_rates.specs.Sum.{fraction_of}
use Rattle.pepa_rates.specs.Share.{with_fraction}
use Rattle.pepa_rates.proofs.Shares.{share-made, fraction-with}
use Rattle.pepa_rates.proofs.rate.Rate.share.Goals as goal

pub returns-in_default : goal.returns-in_default
returns-in_default c in_range =
    let made = share-made c.args.r1.now c.args.ra.now c.args.r2.now c.args.rb.now c.ordered-least.result.0 c.ordered-least.result.1 c.fraction.result.now c.fraction-2.result.now c.fraction-3.result.now
    c.valid.ensures c.valid-2.ensures c.valid-3.ensures c.valid-4.ensures c.ordered-least.ensures c.fraction.ensures c.fraction-2.ensures c.fraction-3.ensures in
    c.in_default.ensures (subst InRange (ap fraction_of (sym made) ∙ fraction-with c.ordered-least.result.0 _) in_range)

pub returns : goal.returns
returns c =
    let made = share-made c.args.r1.now c.args.ra.now c.args.r2.now c.args.rb.now c.ordered-least.result.0 c.ordered-least.result.1 c.fraction.result.now c.fraction-2.result.now c.fraction-3.result.now
    c.valid.ensures c.valid-2.ensures c.valid-3.ensures c.valid-4.ensures c.ordered-least.ensures c.fraction.ensures c.fraction-2.ensures c.fraction-3.ensures in
    let exact = ap (with_fraction c.ordered-least.result.0) c.in-Ok.ensures.0 ∙ made in
    (c.with_fraction.ensures ∙ exact, subst InRange (sym (fraction-with c.ordered-least.result.0 c.in-Ok.share) ∙ ap fraction_of exact) (rw c.in-Ok.ensures.0 c.in-Ok.ensures.1))
