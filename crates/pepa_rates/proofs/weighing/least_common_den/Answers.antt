use Rattle.std.proofs.Common.{◌+◌, ◌<◌, ◌∙◌, ap, arith}
use Rattle.std.proofs.lemmas.List.Elements.{All-weaker}
use Rattle.pepa_rates.specs.Fraction.{Fraction, IsProper}
use Rattle.pepa_rates.proofs.Divisors.{gcd-pos}
use Rattle.pepa_rates.proofs.Multiples.{common_den-more, common_den-front, common_den-pos}
use Rattle.pepa_rates.proofs.weighing.least_common_den.Goals as goal

pub nonzero_div-common : goal.nonzero_div-common
nonzero_div-common c = rw c.common_divisor.ensures (gcd-pos _ _ c.loop-q.invariant.0)

pub returns-then-common-ge-WHOLE_LIMIT : goal.returns-then-common-ge-WHOLE_LIMIT
returns-then-common-ge-WHOLE_LIMIT c =
    let rates = c.args.rates.now in
    let part = c.from-part.ensures ∙ ap (λ (x : Fraction). x.den) c.q.view_is in
    let more = common_den-more rates c.loop-q.q-index c.loop-q.common c.from-part.result c.common_divisor.result c.q-item.result c.loop-q-test.true c.q-item.is part c.common_divisor.ensures c.loop-q.invariant.2 in
    let front = common_den-front rates (c.loop-q.q-index + 1) (All-weaker IsProper (λ q. 0 < q.den) (λ q h. h.over_positive) rates c.all_valid.ensures) in
    omega (arith, more, front)

pub loop-q-preserved : goal.loop-q-preserved
loop-q-preserved c =
    let rates = c.args.rates.now in
    let part = c.from-part.ensures ∙ ap (λ (x : Fraction). x.den) c.q.view_is in
    let more = common_den-more rates c.loop-q.q-index c.loop-q.common c.from-part.result c.common_divisor.result c.q-item.result c.loop-q-test.true c.q-item.is part c.common_divisor.ensures c.loop-q.invariant.2 in
    let pos = common_den-pos rates (c.loop-q.q-index + 1) (All-weaker IsProper (λ q. 0 < q.den) (λ q h. h.over_positive) rates c.all_valid.ensures) in
    (omega (arith, more, pos), c.if-common-ge-WHOLE_LIMIT.false, more)
