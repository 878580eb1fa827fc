-- The lesser of two rates: one of the two, in either order the same value, and however it is bracketed.
use Rattle.std.proofs.Common.{◌≡◌, ℕ, ◌*◌, ◌<◌, ◌≤◌, cond, ◌⊎◌, inl, inr, arith, refl, sym, ◌∙◌, ap}
use Rattle.std.proofs.lemmas.Bool.{cases_lt, lt-ltb, le-ltb}
use Rattle.std.proofs.Math.Nat.{mul-lt-mul_of_pos_right, mul-le-mul_right, lt_of_mul-lt-mul_right, le_of_mul-le-mul_right}
use Rattle.pepa_rates.specs.Fraction.{Fraction, IsPositive, IsProper, SameNumber}
use Rattle.pepa_rates.specs.Sum.{fraction_of}
use Rattle.pepa_rates.specs.Share.{lesser_of, least_of, SameRate}
use Rattle.pepa_rates.specs.declared.rate.Rate.{Rate}
use Rattle.pepa_rates.specs.declared.rate.Rate.TheVariants.{Active, Passive}
use Rattle.pepa_rates.proofs.LowestTerms.{lowest-same}

abbrev Below : Fraction → Fraction → Type 0
Below p q = p.num * q.den < q.num * p.den

abbrev UpTo : Fraction → Fraction → Type 0
UpTo p q = p.num * q.den ≤ q.num * p.den

-- the second where it is below the first, else the first
pub lesser_second : (p q : Fraction) → Below q p → lesser_of p q ≡ q
lesser_second p q h = ap (λ b. cond b q p) (lt-ltb (q.num * p.den) (p.num * q.den) h)

pub lesser_first : (p q : Fraction) → UpTo p q → lesser_of p q ≡ p
lesser_first p q h = ap (λ b. cond b q p) (le-ltb (q.num * p.den) (p.num * q.den) h)

cases : (p q : Fraction) → Below q p ⊎ UpTo p q
cases p q = cases_lt (q.num * p.den) (p.num * q.den)

-- order by cross products is transitive, the middle one's denominator being positive
below_along : (a b c d m e : ℕ) → 0 < b → 0 < d → a * e < m * b → m * d ≤ c * e → a * d < c * b
below_along a b c d m e b_some d_some h k =
    let left : a * e * d < m * b * d = mul-lt-mul_of_pos_right h d_some in
    let right : m * d * b ≤ c * e * b = mul-le-mul_right b k in
    lt_of_mul-lt-mul_right e {m = a * d} {n = c * b} (omega (arith, left, right))

upto_along : (a b c d m e : ℕ) → 0 < e → a * e ≤ m * b → m * d ≤ c * e → a * d ≤ c * b
upto_along a b c d m e e_some h k =
    let left : a * e * d ≤ m * b * d = mul-le-mul_right d h in
    let right : m * d * b ≤ c * e * b = mul-le-mul_right b k in
    le_of_mul-le-mul_right {m = a * d} {n = c * b} {k = e} (omega (arith, left, right)) e_some

pub lesser-assoc : (p q r : Fraction) → IsPositive p → IsPositive q → IsPositive r → lesser_of (lesser_of p q) r ≡ lesser_of p (lesser_of q r)
lesser-assoc p q r h k l =
    elim (cases p q) [
      | inl q_below ↦ elim (cases q r) [
        | inl r_below ↦ ap (λ x. lesser_of x r) (lesser_second p q q_below) ∙ lesser_second q r r_below
            ∙ sym (ap (lesser_of p) (lesser_second q r r_below) ∙ lesser_second p r (below_along r.num r.den p.num p.den q.num q.den l.1 h.1 r_below (omega arith)))
        | inr q_upto ↦ ap (λ x. lesser_of x r) (lesser_second p q q_below) ∙ lesser_first q r q_upto
            ∙ sym (ap (lesser_of p) (lesser_first q r q_upto) ∙ lesser_second p q q_below)
      ]
      | inr p_upto ↦ elim (cases q r) [
        | inl r_below ↦ ap (λ x. lesser_of x r) (lesser_first p q p_upto) ∙ sym (ap (lesser_of p) (lesser_second q r r_below))
        | inr q_upto ↦ ap (λ x. lesser_of x r) (lesser_first p q p_upto) ∙ lesser_first p r (upto_along p.num p.den r.num r.den q.num q.den k.1 p_upto q_upto)
            ∙ sym (ap (lesser_of p) (lesser_first q r q_upto) ∙ lesser_first p q p_upto)
      ]
    ]

-- in either order the same number
same_number : (p q x y : Fraction) → x ≡ p → y ≡ q → SameNumber p q → SameNumber x y
same_number p q x y e f h = rw (e, f) h

pub lesser-comm : (p q : Fraction) → SameNumber (lesser_of p q) (lesser_of q p)
lesser-comm p q =
    elim (cases p q) [
      | inl q_below ↦ same_number q q (lesser_of p q) (lesser_of q p) (lesser_second p q q_below) (lesser_first q p (omega arith)) refl
      | inr p_upto ↦ elim (cases q p) [
        | inl p_below ↦ same_number p p (lesser_of p q) (lesser_of q p) (lesser_first p q p_upto) (lesser_second q p p_below) refl
        | inr q_upto ↦ same_number p q (lesser_of p q) (lesser_of q p) (lesser_first p q p_upto) (lesser_first q p q_upto) (omega arith)
      ]
    ]

pub lesser-one_of : (p q : Fraction) → (lesser_of p q ≡ p) ⊎ (lesser_of p q ≡ q)
lesser-one_of p q = elim (cases p q) [ inl h ↦ inr (lesser_second p q h) | inr h ↦ inl (lesser_first p q h) ]

pub least-one_of : (a b : Rate) → (least_of a b ≡ a) ⊎ (least_of a b ≡ b)
least-one_of (Active p) (Active q) = elim (lesser-one_of p q) [ inl e ↦ inl (ap Active e) | inr e ↦ inr (ap Active e) ]
least-one_of (Passive p) (Passive q) = elim (lesser-one_of p q) [ inl e ↦ inl (ap Passive e) | inr e ↦ inr (ap Passive e) ]
least-one_of (Active p) (Passive q) = inl refl
least-one_of (Passive p) (Active q) = inr refl

-- what holds of two rates holds of the lesser
pub least-keeps : (P : Rate → Type 0) (a b : Rate) → P a → P b → P (least_of a b)
least-keeps P a b h k = elim (least-one_of a b) [ inl e ↦ rw e h | inr e ↦ rw e k ]

pub least-comm : (a b : Rate) → SameRate (least_of a b) (least_of b a)
least-comm (Active p) (Active q) = (tt, lesser-comm p q)
least-comm (Passive p) (Passive q) = (tt, lesser-comm p q)
least-comm (Active p) (Passive q) = (tt, refl)
least-comm (Passive p) (Active q) = (tt, refl)

pub least-assoc :
    (a b c : Rate)
    → IsPositive (fraction_of a)
    → IsPositive (fraction_of b)
    → IsPositive (fraction_of c)
    → least_of (least_of a b) c ≡ least_of a (least_of b c)
least-assoc (Active p) (Active q) (Active r) h k l = ap Active (lesser-assoc p q r h k l)
least-assoc (Active p) (Active q) (Passive r) h k l = refl
least-assoc (Active p) (Passive q) (Active r) h k l = refl
least-assoc (Active p) (Passive q) (Passive r) h k l = refl
least-assoc (Passive p) (Active q) (Active r) h k l = refl
least-assoc (Passive p) (Active q) (Passive r) h k l = refl
least-assoc (Passive p) (Passive q) (Active r) h k l = refl
least-assoc (Passive p) (Passive q) (Passive r) h k l = ap Passive (lesser-assoc p q r h k l)

-- rates of the program that are of one kind and the same number are one
pub same-rate : (a b : Rate) → IsProper (fraction_of a) → IsProper (fraction_of b) → SameRate a b → a ≡ b
same-rate (Active p) (Active q) h k same = ap Active (lowest-same p q h.positive k.positive h.lowest k.lowest same.1)
same-rate (Passive p) (Passive q) h k same = ap Passive (lowest-same p q h.positive k.positive h.lowest k.lowest same.1)
same-rate (Active p) (Passive q) h k same = absurd same.0
same-rate (Passive p) (Active q) h k same = absurd same.0
