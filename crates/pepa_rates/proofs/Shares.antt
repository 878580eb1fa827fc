-- The rate of an activity performed together: one apparent rate cancels, and neither side comes first.
use Rattle.std.proofs.Common.{◌≡◌, ℕ, ◌*◌, ◌<◌, inl, inr, arith, refl, sym, ◌∙◌, ap}
use Rattle.std.proofs.Math.Nat.{mul-pos}
use Rattle.pepa_rates.specs.Fraction.{Fraction, reduced, IsPositive, IsProper}
use Rattle.pepa_rates.specs.Sum.{fraction_of}
use Rattle.pepa_rates.specs.Share.{least_of, SameKind, product_of, quotient_of, with_fraction, share_of, IsInOrder}
use Rattle.pepa_rates.specs.declared.rate.Rate.{Rate}
use Rattle.pepa_rates.specs.declared.rate.Rate.TheVariants.{Active, Passive}
use Rattle.pepa_rates.proofs.LowestTerms.{reduced-same, reduced-cross, reduced-positive, proper-reduced}
use Rattle.pepa_rates.proofs.Sums.{reduced-mul_left, reduced_along}
use Rattle.pepa_rates.proofs.Lesser.{least-keeps, least-comm}

-- the product of two fractions that are p/q and r/s by their cross products
cross_of_product : (n d p q m e r s : ℕ) → n * q ≡ p * d → m * s ≡ r * e → p * r * (d * e) ≡ n * m * (q * s)
cross_of_product n d p q m e r s h k =
    let both : n * q * (m * s) ≡ p * d * (r * e) = ap (λ x. x * (m * s)) h ∙ ap (λ x. p * d * x) k in
    omega (arith, both)

-- a product with a fraction that was put in lowest terms
product-reduced : (n d : ℕ) (r : Fraction) → 0 < n → 0 < d → IsPositive r → product_of (reduced n d) r ≡ reduced (n * r.num) (d * r.den)
product-reduced n d r n_some d_some h =
    let pos = reduced-positive n d n_some d_some in
    let p : ℕ = (reduced n d).num in
    let q : ℕ = (reduced n d).den in
    reduced-same (p * r.num) (q * r.den) (n * r.num) (d * r.den)
    (mul-pos pos.0 h.0) (mul-pos pos.1 h.1) (mul-pos n_some h.0) (mul-pos d_some h.1)
    (cross_of_product n d p q r.num r.den r.num r.den (reduced-cross n d) refl)

product-both_reduced :
    (n d m e : ℕ)
    → 0 < n
    → 0 < d
    → 0 < m
    → 0 < e
    → product_of (reduced n d) (reduced m e) ≡ reduced (n * m) (d * e)
product-both_reduced n d m e n_some d_some m_some e_some =
    let pos = reduced-positive n d n_some d_some in
    let pos' = reduced-positive m e m_some e_some in
    let p : ℕ = (reduced n d).num in
    let q : ℕ = (reduced n d).den in
    let r : ℕ = (reduced m e).num in
    let s : ℕ = (reduced m e).den in
    reduced-same (p * r) (q * s) (n * m) (d * e)
    (mul-pos pos.0 pos'.0) (mul-pos pos.1 pos'.1) (mul-pos n_some m_some) (mul-pos d_some e_some)
    (cross_of_product n d p q m e r s (reduced-cross n d) (reduced-cross m e))

-- (p/a) * (q/b) * l
abbrev pub share_num : Fraction → Fraction → Fraction → Fraction → Fraction → ℕ
share_num p a q b l = p.num * a.den * (q.num * b.den) * l.num

abbrev pub share_den : Fraction → Fraction → Fraction → Fraction → Fraction → ℕ
share_den p a q b l = p.den * a.num * (q.den * b.num) * l.den

abbrev pub fraction_share : Fraction → Fraction → Fraction → Fraction → Fraction → Fraction
fraction_share p a q b l = product_of (product_of (quotient_of p a) (quotient_of q b)) l

pub share_as_one :
    (p a q b l : Fraction)
    → IsPositive p
    → IsPositive a
    → IsPositive q
    → IsPositive b
    → IsPositive l
    → fraction_share p a q b l ≡ reduced (share_num p a q b l) (share_den p a q b l)
share_as_one p a q b l hp ha hq hb hl =
    let n_some = mul-pos hp.0 ha.1 in
    let d_some = mul-pos hp.1 ha.0 in
    let m_some = mul-pos hq.0 hb.1 in
    let e_some = mul-pos hq.1 hb.0 in
    ap (λ x. product_of x l) (product-both_reduced (p.num * a.den) (p.den * a.num) (q.num * b.den) (q.den * b.num) n_some d_some m_some e_some)
    ∙ product-reduced (p.num * a.den * (q.num * b.den)) (p.den * a.num * (q.den * b.num)) l (mul-pos n_some m_some) (mul-pos d_some e_some) hl

-- the fraction that the program makes: o is the apparent rate that isn't the lesser
abbrev pub short : Fraction → Fraction → Fraction → Fraction
short p q o = reduced (p.num * q.num * o.den) (p.den * q.den * o.num)

share_short_first : (p a q b : Fraction) → IsPositive p → IsPositive a → IsPositive q → IsPositive b → fraction_share p a q b a ≡ short p q b
share_short_first p a q b hp ha hq hb =
    let c : ℕ = a.num * a.den in
    share_as_one p a q b a hp ha hq hb ha
    ∙ reduced_along (share_num p a q b a) (c * (p.num * q.num * b.den)) (share_den p a q b a) (c * (p.den * q.den * b.num)) (omega arith) (omega arith)
    ∙ reduced-mul_left c (p.num * q.num * b.den) (p.den * q.den * b.num) (mul-pos ha.0 ha.1)

share_short_second : (p a q b : Fraction) → IsPositive p → IsPositive a → IsPositive q → IsPositive b → fraction_share p a q b b ≡ short p q a
share_short_second p a q b hp ha hq hb =
    let c : ℕ = b.num * b.den in
    share_as_one p a q b b hp ha hq hb hb
    ∙ reduced_along (share_num p a q b b) (c * (p.num * q.num * a.den)) (share_den p a q b b) (c * (p.den * q.den * a.num)) (omega arith) (omega arith)
    ∙ reduced-mul_left c (p.num * q.num * a.den) (p.den * q.den * a.num) (mul-pos hb.0 hb.1)

pub share_short :
    (r1 ra r2 rb least other : Rate)
    → IsPositive (fraction_of r1)
    → IsPositive (fraction_of ra)
    → IsPositive (fraction_of r2)
    → IsPositive (fraction_of rb)
    → IsInOrder ra rb least other
    → share_of r1 ra r2 rb ≡ with_fraction least (short (fraction_of r1) (fraction_of r2) (fraction_of other))
share_short r1 ra r2 rb least other h1 ha h2 hb ordered =
    let p : Fraction = fraction_of r1 in
    let a : Fraction = fraction_of ra in
    let q : Fraction = fraction_of r2 in
    let b : Fraction = fraction_of rb in
    ap (λ x. with_fraction x (fraction_share p a q b (fraction_of x))) (sym ordered.0)
    ∙ ap (with_fraction least) (elim ordered.1 [
      | inl both ↦ ap (λ x. fraction_share p a q b (fraction_of x)) both.0 ∙ share_short_first p a q b h1 ha h2 hb
          ∙ ap (λ x. short p q (fraction_of x)) (sym both.1)
      | inr both ↦ ap (λ x. fraction_share p a q b (fraction_of x)) both.0 ∙ share_short_second p a q b h1 ha h2 hb
          ∙ ap (λ x. short p q (fraction_of x)) (sym both.1)
    ])

-- the same of fractions that were read from the rates of the program
pub share-made :
    (r1 ra r2 rb least other : Rate) (p q o : Fraction)
    → IsProper (fraction_of r1)
    → IsProper (fraction_of ra)
    → IsProper (fraction_of r2)
    → IsProper (fraction_of rb)
    → IsInOrder ra rb least other
    → p ≡ fraction_of r1
    → q ≡ fraction_of r2
    → o ≡ fraction_of other
    → with_fraction least (short p q o) ≡ share_of r1 ra r2 rb
share-made r1 ra r2 rb least other p q o h1 ha h2 hb ordered e f g =
    rw (e, f, g) (sym (share_short r1 ra r2 rb least other
    (h1.positive, h1.over_positive) (ha.positive, ha.over_positive) (h2.positive, h2.over_positive) (hb.positive, hb.over_positive) ordered))

pub fraction-with : (a : Rate) (q : Fraction) → fraction_of (with_fraction a q) ≡ q
fraction-with (Active p) q = refl
fraction-with (Passive p) q = refl

with-own : (a : Rate) → with_fraction a (fraction_of a) ≡ a
with-own (Active p) = refl
with-own (Passive p) = refl

with_same_kind : (a b : Rate) (p q : Fraction) → SameKind a b → p ≡ q → with_fraction a p ≡ with_fraction b q
with_same_kind (Active x) (Active y) p q same e = ap Active e
with_same_kind (Passive x) (Passive y) p q same e = ap Passive e
with_same_kind (Active x) (Passive y) p q same e = absurd same
with_same_kind (Passive x) (Active y) p q same e = absurd same

swapped : (x y l m k n : ℕ) → l * n ≡ k * m → x * l * (y * n) ≡ x * k * (y * m)
swapped x y l m k n h = let all : x * y * (l * n) ≡ x * y * (k * m) = ap (λ z. x * y * z) h in omega (arith, all)

positive_share :
    (p a q b l : Fraction)
    → IsPositive p
    → IsPositive a
    → IsPositive q
    → IsPositive b
    → IsPositive l
    → (0 < share_num p a q b l) × (0 < share_den p a q b l)
positive_share p a q b l hp ha hq hb hl =
    (mul-pos (mul-pos (mul-pos hp.0 ha.1) (mul-pos hq.0 hb.1)) hl.0, mul-pos (mul-pos (mul-pos hp.1 ha.0) (mul-pos hq.1 hb.0)) hl.1)

fraction_share-comm :
    (p a q b l k : Fraction)
    → IsPositive p
    → IsPositive a
    → IsPositive q
    → IsPositive b
    → IsPositive l
    → IsPositive k
    → l.num * k.den ≡ k.num * l.den
    → fraction_share p a q b l ≡ fraction_share q b p a k
fraction_share-comm p a q b l k hp ha hq hb hl hk same =
    let pos = positive_share p a q b l hp ha hq hb hl in
    let pos' = positive_share q b p a k hq hb hp ha hk in
    let cross = swapped (p.num * a.den * (q.num * b.den)) (p.den * a.num * (q.den * b.num)) l.num l.den k.num k.den same in
    share_as_one p a q b l hp ha hq hb hl
    ∙ reduced-same (share_num p a q b l) (share_den p a q b l) (share_num q b p a k) (share_den q b p a k) pos.0 pos.1 pos'.0 pos'.1 (omega (arith, cross))
    ∙ sym (share_as_one q b p a k hq hb hp ha hk)

-- neither side comes first
pub share-comm :
    (r1 ra r2 rb : Rate)
    → IsPositive (fraction_of r1)
    → IsPositive (fraction_of ra)
    → IsPositive (fraction_of r2)
    → IsPositive (fraction_of rb)
    → share_of r1 ra r2 rb ≡ share_of r2 rb r1 ra
share-comm r1 ra r2 rb h1 ha h2 hb =
    let same = least-comm ra rb in
    let pos = least-keeps (λ x. IsPositive (fraction_of x)) ra rb ha hb in
    let pos' = least-keeps (λ x. IsPositive (fraction_of x)) rb ra hb ha in
    with_same_kind (least_of ra rb) (least_of rb ra) _ _ same.0
    (fraction_share-comm (fraction_of r1) (fraction_of ra) (fraction_of r2) (fraction_of rb) (fraction_of (least_of ra rb)) (fraction_of (least_of rb ra)) h1 ha h2 hb pos pos' same.1)

fraction_share-whole : (a b l : Fraction) → IsPositive a → IsPositive b → IsProper l → fraction_share a a b b l ≡ l
fraction_share-whole a b l ha hb hl =
    let c : ℕ = a.num * a.den * (b.num * b.den) in
    share_as_one a a b b l ha ha hb hb (hl.positive, hl.over_positive)
    ∙ reduced_along (share_num a a b b l) (c * l.num) (share_den a a b b l) (c * l.den) (omega arith) (omega arith)
    ∙ reduced-mul_left c l.num l.den (mul-pos (mul-pos ha.0 ha.1) (mul-pos hb.0 hb.1))
    ∙ proper-reduced l hl

-- where each side has only this activity, it happens at the lesser apparent rate
pub share-whole : (ra rb : Rate) → IsProper (fraction_of ra) → IsProper (fraction_of rb) → share_of ra ra rb rb ≡ least_of ra rb
share-whole ra rb ha hb =
    let l : Rate = least_of ra rb in
    let proper = least-keeps (λ x. IsProper (fraction_of x)) ra rb ha hb in
    ap (with_fraction l) (fraction_share-whole (fraction_of ra) (fraction_of rb) (fraction_of l) (ha.positive, ha.over_positive) (hb.positive, hb.over_positive) proper)
    ∙ with-own l
