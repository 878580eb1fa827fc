use Rattle.std.proofs.Common.{arith, ◌/◌, ap, refl}
use Rattle.pepa_rates.specs.Fraction.{reduced}
use Rattle.pepa_rates.proofs.Divisors.{gcd-pos}
use Rattle.pepa_rates.proofs.LowestTerms.{reduced-IsProper}
use Rattle.pepa_rates.proofs.frac.Frac.make.Goals as goal

pub nonzero_div-num : goal.nonzero_div-num
nonzero_div-num c = rw c.common_divisor-divisor.ensures (gcd-pos _ _ c.requires.numerator)

pub nonzero_div-den : goal.nonzero_div-den
nonzero_div-den c = rw c.common_divisor-divisor.ensures (gcd-pos _ _ c.requires.numerator)

pub returns-then-num-ge-PART_LIMIT : goal.returns-then-num-ge-PART_LIMIT
unfolding reduced
returns-then-num-ge-PART_LIMIT c h =
    let num = ap (λ x. c.args.n / x) c.common_divisor-divisor.ensures in
    let den = ap (λ x. c.args.d / x) c.common_divisor-divisor.ensures in
    omega arith

pub invariant_of-result : goal.invariant_of-result
invariant_of-result c =
    reduced-IsProper c.args.n c.args.d _ c.common_divisor-divisor.ensures c.requires.numerator c.requires.denominator
    (omega arith) (omega arith)

pub returns : goal.returns
unfolding reduced
returns c = rw c.common_divisor-divisor.ensures refl
