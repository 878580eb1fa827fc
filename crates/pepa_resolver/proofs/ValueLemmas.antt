-- Which values are fine.
use Rattle.std.proofs.Common.{◌≡◌, ℕ, ◌^◌, ◌<◌, ◌≤◌, refl, arith}
use Rattle.std.proofs.Math.Nat.{pow-le-pow_right, zero-div}
use Rattle.pepa_rates.specs.Fraction.{gcd, gcd_within, reduced, IsProper}
use Rattle.pepa_resolver.specs.Outcomes.{BadAt, fine_at}

-- 0 is no value
pub zero_refused : (at d : ℕ) → fine_at at (reduced 0 d) ≡ BadAt at
unfolding reduced
zero_refused at d = rw (zero-div (gcd 0 d)) refl

pub power_some : (scale : ℕ) → 0 < 10 ^ scale
power_some scale =
    let ten : 0 < 10 = omega arith in
    let zero_le : 0 ≤ scale = omega arith in
    let le : 10 ^ 0 ≤ 10 ^ scale = pow-le-pow_right ten zero_le in
    omega arith

pub power_fits : (scale : ℕ) → scale ≤ 30 → 10 ^ scale < 2 ^ 128
power_fits scale small =
    let ten : 0 < 10 = omega arith in
    let le : 10 ^ scale ≤ 10 ^ 30 = pow-le-pow_right ten small in
    omega arith

pub one_proper : IsProper (record { num = 1; den = 1 })
unfolding gcd gcd_within
one_proper = record { positive = omega arith; over_positive = omega arith; lowest = refl; in_range = (omega arith, omega arith) }
