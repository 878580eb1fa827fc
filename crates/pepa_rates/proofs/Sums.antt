-- Exact sums: the order and the brackets don't matter.
use Rattle.std.proofs.Common.{◌≡◌, ℕ, ◌+◌, ◌*◌, ◌/◌, ◌<◌, arith, sym, ◌∙◌, ap}
use Rattle.std.proofs.Math.Nat.{mul-div-mul_left, mul-pos}
use Rattle.pepa_rates.specs.Fraction.{Fraction, gcd, reduced, IsPositive}
use Rattle.pepa_rates.specs.Sum.{sum_of}
use Rattle.pepa_rates.proofs.Divisors.{gcd-pos, gcd-mul_left}
use Rattle.pepa_rates.proofs.LowestTerms.{fraction_same, num-whole, den-whole, reduced-positive}

pub reduced_along : (n m d e : ℕ) → n ≡ m → d ≡ e → reduced n d ≡ reduced m e
reduced_along n m d e h k = ap (λ x. reduced x d) h ∙ ap (reduced m) k

-- a common factor doesn't matter
pub reduced-mul_left : (c n d : ℕ) → 0 < c → reduced (c * n) (c * d) ≡ reduced n d
unfolding reduced
reduced-mul_left c n d pos =
    let taken = gcd-mul_left c n d pos in
    fraction_same (reduced (c * n) (c * d)) (reduced n d)
    (ap (λ x. c * n / x) taken ∙ mul-div-mul_left n (gcd n d) pos)
    (ap (λ x. c * d / x) taken ∙ mul-div-mul_left d (gcd n d) pos)

pub sum_of-positive : (p q : Fraction) → IsPositive p → IsPositive q → IsPositive (sum_of p q)
sum_of-positive p q h k =
    reduced-positive (p.num * q.den + q.num * p.den) (p.den * q.den) (omega (arith, mul-pos h.0 k.1)) (mul-pos h.1 k.1)

pub sum_of-comm : (p q : Fraction) → sum_of p q ≡ sum_of q p
sum_of-comm p q = reduced_along (p.num * q.den + q.num * p.den) (q.num * p.den + p.num * q.den) (p.den * q.den) (q.den * p.den) (omega arith) (omega arith)

num_along : (g p q n d x y : ℕ) → g * p ≡ n → g * q ≡ d → g * (p * y + x * q) ≡ n * y + x * d
num_along g p q n d x y e f = rw (← e, ← f) (omega arith)

den_along : (g q d y : ℕ) → g * q ≡ d → g * (q * y) ≡ d * y
den_along g q d y f = rw (← f) (omega arith)

-- a sum with a fraction that was put in lowest terms
sum_of-reduced : (n d : ℕ) (r : Fraction) → 0 < n → sum_of (reduced n d) r ≡ reduced (n * r.den + r.num * d) (d * r.den)
sum_of-reduced n d r pos =
    let g : ℕ = gcd n d in
    let p : ℕ = (reduced n d).num in
    let q : ℕ = (reduced n d).den in
    let num : g * p ≡ n = num-whole n d in
    let den : g * q ≡ d = den-whole n d in
    sym (reduced-mul_left g (p * r.den + r.num * q) (q * r.den) (gcd-pos n d pos))
    ∙ reduced_along (g * (p * r.den + r.num * q)) (n * r.den + r.num * d) (g * (q * r.den)) (d * r.den) (num_along g p q n d r.num r.den num den) (den_along g q d r.den den)

pub sum_of-assoc : (p q r : Fraction) → IsPositive p → IsPositive q → IsPositive r → sum_of (sum_of p q) r ≡ sum_of p (sum_of q r)
sum_of-assoc p q r h k l =
    let left : ℕ = p.num * q.den + q.num * p.den in
    let right : ℕ = q.num * r.den + r.num * q.den in
    sum_of-reduced left (p.den * q.den) r (omega (arith, mul-pos h.0 k.1))
    ∙ reduced_along (left * r.den + r.num * (p.den * q.den)) (right * p.den + p.num * (q.den * r.den)) (p.den * q.den * r.den) (q.den * r.den * p.den) (omega arith) (omega arith)
    ∙ sym (sum_of-reduced right (q.den * r.den) p (omega (arith, mul-pos k.0 l.1)))
    ∙ sum_of-comm (sum_of q r) p
