-- Shares add up: the share of a sum is the sum of the shares, on either side.
use Rattle.std.proofs.Common.{◌≡◌, ℕ, ◌+◌, ◌*◌, ◌<◌, arith, sym, ◌∙◌, ap, subst}
use Rattle.std.proofs.Math.Nat.{mul-pos}
use Rattle.pepa_rates.specs.Fraction.{Fraction, reduced, IsPositive}
use Rattle.pepa_rates.specs.Sum.{sum_of, fraction_of}
use Rattle.pepa_rates.specs.Share.{least_of, share_of}
use Rattle.pepa_rates.specs.declared.rate.Rate.{Rate}
use Rattle.pepa_rates.proofs.LowestTerms.{reduced-same, reduced-cross, reduced-positive}
use Rattle.pepa_rates.proofs.Sums.{reduced-mul_left, reduced_along, sum_of-positive}
use Rattle.pepa_rates.proofs.Shares.{fraction-with, share_as_one, share_num, share_den, fraction_share}
use Rattle.pepa_rates.proofs.Lesser.{least-keeps}

-- ---- a fraction times c/d

abbrev times : ℕ → ℕ → Fraction → Fraction
times c d q = reduced (c * q.num) (d * q.den)

cross_of_sum : (n d m e p q r s : ℕ) → n * q ≡ p * d → m * s ≡ r * e → (p * s + r * q) * (d * e) ≡ (n * e + m * d) * (q * s)
cross_of_sum n d m e p q r s h k =
    let left : n * q * (e * s) ≡ p * d * (e * s) = ap (λ x. x * (e * s)) h in
    let right : m * s * (d * q) ≡ r * e * (d * q) = ap (λ x. x * (d * q)) k in
    omega (arith, left, right)

-- a sum of two fractions that were put in lowest terms
sum-both_reduced : (n d m e : ℕ) → 0 < n → 0 < d → 0 < m → 0 < e → sum_of (reduced n d) (reduced m e) ≡ reduced (n * e + m * d) (d * e)
sum-both_reduced n d m e n_some d_some m_some e_some =
    let pos = reduced-positive n d n_some d_some in
    let pos' = reduced-positive m e m_some e_some in
    let p : ℕ = (reduced n d).num in
    let q : ℕ = (reduced n d).den in
    let r : ℕ = (reduced m e).num in
    let s : ℕ = (reduced m e).den in
    let first : 0 < p * s = mul-pos pos.0 pos'.1 in
    let second : 0 < n * e = mul-pos n_some e_some in
    reduced-same (p * s + r * q) (q * s) (n * e + m * d) (d * e)
    (omega (arith, first)) (mul-pos pos.1 pos'.1) (omega (arith, second)) (mul-pos d_some e_some)
    (cross_of_sum n d m e p q r s (reduced-cross n d) (reduced-cross m e))

-- a product with a fraction that was put in lowest terms
times-reduced : (c d n m : ℕ) → 0 < c → 0 < d → 0 < n → 0 < m → times c d (reduced n m) ≡ reduced (c * n) (d * m)
times-reduced c d n m c_some d_some n_some m_some =
    let pos = reduced-positive n m n_some m_some in
    reduced-same (c * (reduced n m).num) (d * (reduced n m).den) (c * n) (d * m)
    (mul-pos c_some pos.0) (mul-pos d_some pos.1) (mul-pos c_some n_some) (mul-pos d_some m_some)
    (cross c d n m (reduced n m).num (reduced n m).den (reduced-cross n m))
  where
    cross : (c d n m p q : ℕ) → n * q ≡ p * m → c * p * (d * m) ≡ c * n * (d * q)
    cross c d n m p q h =
        let all : c * d * (n * q) ≡ c * d * (p * m) = ap (λ x. c * d * x) h in
        omega (arith, all)

-- the product of a sum is the sum of the products
times-sum : (c d : ℕ) (p q : Fraction) → 0 < c → 0 < d → IsPositive p → IsPositive q → times c d (sum_of p q) ≡ sum_of (times c d p) (times c d q)
times-sum c d p q c_some d_some h k =
    let n : ℕ = p.num * q.den + q.num * p.den in
    let m : ℕ = p.den * q.den in
    let some : 0 < p.num * q.den = mul-pos h.0 k.1 in
    times-reduced c d n m c_some d_some (omega (arith, some)) (mul-pos h.1 k.1)
    ∙ sym (reduced-mul_left d (c * n) (d * m) d_some)
    ∙ reduced_along (d * (c * n)) (c * p.num * (d * q.den) + c * q.num * (d * p.den)) (d * (d * m)) (d * p.den * (d * q.den)) (omega arith) (omega arith)
    ∙ sym (sum-both_reduced (c * p.num) (d * p.den) (c * q.num) (d * q.den) (mul-pos c_some h.0) (mul-pos d_some h.1) (mul-pos c_some k.0) (mul-pos d_some k.1))

-- ---- shares of fractions

module _ (a b l : Fraction) (ha : IsPositive a) (hb : IsPositive b) (hl : IsPositive l) where
  -- the share of the first activity is its rate times c/d
  first_times : (p q : Fraction) → IsPositive p → IsPositive q → fraction_share p a q b l ≡ times (a.den * (q.num * b.den) * l.num) (a.num * (q.den * b.num) * l.den) p
  first_times p q hp hq =
      share_as_one p a q b l hp ha hq hb hl
      ∙ reduced_along (share_num p a q b l) (a.den * (q.num * b.den) * l.num * p.num) (share_den p a q b l) (a.num * (q.den * b.num) * l.den * p.den) (omega arith) (omega arith)

  second_times : (p q : Fraction) → IsPositive p → IsPositive q → fraction_share p a q b l ≡ times (p.num * a.den * b.den * l.num) (p.den * a.num * b.num * l.den) q
  second_times p q hp hq =
      share_as_one p a q b l hp ha hq hb hl
      ∙ reduced_along (share_num p a q b l) (p.num * a.den * b.den * l.num * q.num) (share_den p a q b l) (p.den * a.num * b.num * l.den * q.den) (omega arith) (omega arith)

  pub first-sum : (p r q : Fraction) → IsPositive p → IsPositive r → IsPositive q
      → fraction_share (sum_of p r) a q b l ≡ sum_of (fraction_share p a q b l) (fraction_share r a q b l)
  first-sum p r q hp hr hq =
      let c : ℕ = a.den * (q.num * b.den) * l.num in
      let d : ℕ = a.num * (q.den * b.num) * l.den in
      let c_some : 0 < c = mul-pos (mul-pos ha.1 (mul-pos hq.0 hb.1)) hl.0 in
      let d_some : 0 < d = mul-pos (mul-pos ha.0 (mul-pos hq.1 hb.0)) hl.1 in
      first_times (sum_of p r) q (sum_of-positive p r hp hr) hq
      ∙ times-sum c d p r c_some d_some hp hr
      ∙ ap (λ x. sum_of x (times c d r)) (sym (first_times p q hp hq))
      ∙ ap (λ x. sum_of (fraction_share p a q b l) x) (sym (first_times r q hr hq))

  pub second-sum : (p q r : Fraction) → IsPositive p → IsPositive q → IsPositive r
      → fraction_share p a (sum_of q r) b l ≡ sum_of (fraction_share p a q b l) (fraction_share p a r b l)
  second-sum p q r hp hq hr =
      let c : ℕ = p.num * a.den * b.den * l.num in
      let d : ℕ = p.den * a.num * b.num * l.den in
      let c_some : 0 < c = mul-pos (mul-pos (mul-pos hp.0 ha.1) hb.1) hl.0 in
      let d_some : 0 < d = mul-pos (mul-pos (mul-pos hp.1 ha.0) hb.0) hl.1 in
      second_times p (sum_of q r) hp (sum_of-positive q r hq hr)
      ∙ times-sum c d q r c_some d_some hq hr
      ∙ ap (λ x. sum_of x (times c d r)) (sym (second_times p q hp hq))
      ∙ ap (λ x. sum_of (fraction_share p a q b l) x) (sym (second_times p r hp hr))

  pub fraction_share-positive : (p q : Fraction) → IsPositive p → IsPositive q → IsPositive (fraction_share p a q b l)
  fraction_share-positive p q hp hq =
      subst IsPositive (sym (first_times p q hp hq))
      (reduced-positive (a.den * (q.num * b.den) * l.num * p.num) (a.num * (q.den * b.num) * l.den * p.den)
      (mul-pos (mul-pos (mul-pos ha.1 (mul-pos hq.0 hb.1)) hl.0) hp.0) (mul-pos (mul-pos (mul-pos ha.0 (mul-pos hq.1 hb.0)) hl.1) hp.1))

pub least-positive : (a b : Rate) → IsPositive (fraction_of a) → IsPositive (fraction_of b) → IsPositive (fraction_of (least_of a b))
least-positive a b ha hb = least-keeps (λ x. IsPositive (fraction_of x)) a b ha hb

pub share-positive : (r1 ra r2 rb : Rate) → IsPositive (fraction_of r1) → IsPositive (fraction_of ra) → IsPositive (fraction_of r2) → IsPositive (fraction_of rb)
    → IsPositive (fraction_of (share_of r1 ra r2 rb))
share-positive r1 ra r2 rb h1 ha h2 hb =
    subst IsPositive (sym (fraction-with (least_of ra rb) _))
    (fraction_share-positive (fraction_of ra) (fraction_of rb) (fraction_of (least_of ra rb)) ha hb (least-positive ra rb ha hb) (fraction_of r1) (fraction_of r2) h1 h2)
