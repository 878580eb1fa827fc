-- Fractions in lowest terms: one form for each number.
use Rattle.std.proofs.Common.{◌≡◌, ℕ, zero, suc, ◌*◌, ◌/◌, ◌^◌, ◌<◌, arith, sym, ◌∙◌, ap, subst}
use Rattle.std.specs.Int.{◌∣◌}
use Rattle.std.proofs.lemmas.Nat.Gcd.{dvd_antisymm}
use Rattle.std.proofs.Math.Nat.{dvd-mul_right, mul-div_cancel', eq_of_mul-eq-mul_left}
use Rattle.pepa_rates.specs.Fraction.{Fraction, gcd, reduced, IsProper}
use Rattle.pepa_rates.proofs.Divisors.{gcd-IsGcd, gcd-pos, gcd-mul_left, dvd_of_coprime}

abbrev fraction : ℕ → ℕ → Fraction
fraction n d = record { num = n; den = d }

pub fraction_same : (p q : Fraction) → p.num ≡ q.num → p.den ≡ q.den → p ≡ q
fraction_same p q e f = ap (λ x. fraction x p.den) e ∙ ap (fraction q.num) f

-- the greatest common divisor, times a part in lowest terms, gives the part
pub num-whole : (n d : ℕ) → gcd n d * (reduced n d).num ≡ n
unfolding reduced
num-whole n d = mul-div_cancel' (gcd n d) (gcd-IsGcd n d).0

pub den-whole : (n d : ℕ) → gcd n d * (reduced n d).den ≡ d
unfolding reduced
den-whole n d = mul-div_cancel' (gcd n d) (gcd-IsGcd n d).1

pub reduced-lowest : (n d : ℕ) → 0 < n → gcd (reduced n d).num (reduced n d).den ≡ 1
reduced-lowest n d pos =
    let g : ℕ = gcd n d in
    let p : ℕ = (reduced n d).num in
    let q : ℕ = (reduced n d).den in
    let taken : gcd (g * p) (g * q) ≡ g * gcd p q = gcd-mul_left g p q (gcd-pos n d pos) in
    let whole : gcd (g * p) (g * q) ≡ g = ap (λ x. gcd x (g * q)) (num-whole n d) ∙ ap (λ x. gcd n x) (den-whole n d) in
    eq_of_mul-eq-mul_left g (gcd-pos n d pos) (gcd p q) 1 (omega arith)

pos_of_mul : (g p n : ℕ) → g * p ≡ n → 0 < n → 0 < p
pos_of_mul g zero n e h = absurd (omega arith)
pos_of_mul g (suc p) n e h = omega arith

cross_of_parts : (g p q n d : ℕ) → g * p ≡ n → g * q ≡ d → n * q ≡ p * d
cross_of_parts g p q n d e f = rw (← e, ← f) (omega arith)

parts_of_cross :
    (g p q h r s n d m e : ℕ)
    → g * p ≡ n
    → g * q ≡ d
    → h * r ≡ m
    → h * s ≡ e
    → 0 < g
    → 0 < h
    → n * e ≡ m * d
    → p * s ≡ r * q
parts_of_cross g p q h r s n d m e num den num' den' g_some h_some cross =
    let all : g * (h * (p * s)) ≡ g * (h * (r * q)) = omega (arith, rw (← num, ← den, ← num', ← den') at cross) in
    eq_of_mul-eq-mul_left h h_some (p * s) (r * q) (eq_of_mul-eq-mul_left g g_some (h * (p * s)) (h * (r * q)) all)

cross_of_same :
    (g p q h r s n d m e : ℕ)
    → g * p ≡ n
    → g * q ≡ d
    → h * r ≡ m
    → h * s ≡ e
    → p ≡ r
    → q ≡ s
    → n * e ≡ m * d
cross_of_same g p q h r s n d m e num den num' den' same same' = rw (← num, ← den, ← num', ← den', same, same') (omega arith)

pub reduced-positive : (n d : ℕ) → 0 < n → 0 < d → (0 < (reduced n d).num) × (0 < (reduced n d).den)
reduced-positive n d some over =
    let p : ℕ = (reduced n d).num in
    let q : ℕ = (reduced n d).den in
    (pos_of_mul (gcd n d) p n (num-whole n d) some, pos_of_mul (gcd n d) q d (den-whole n d) over)

-- the same number as n/d
pub reduced-cross : (n d : ℕ) → n * (reduced n d).den ≡ (reduced n d).num * d
reduced-cross n d = cross_of_parts (gcd n d) (reduced n d).num (reduced n d).den n d (num-whole n d) (den-whole n d)

-- two fractions in lowest terms that are one number are one
pub lowest-same : (p q : Fraction) → 0 < p.num → 0 < q.num → gcd p.num p.den ≡ 1 → gcd q.num q.den ≡ 1 → p.num * q.den ≡ q.num * p.den → p ≡ q
lowest-same p q some other low lower cross =
    let left : p.num ∣ q.num = dvd_of_coprime p.num p.den q.num low other (subst (λ x. p.num ∣ x) cross (dvd-mul_right p.num q.den)) in
    let right : q.num ∣ p.num = dvd_of_coprime q.num q.den p.num lower some (subst (λ x. q.num ∣ x) (sym cross) (dvd-mul_right q.num p.den)) in
    let nums : p.num ≡ q.num = dvd_antisymm left right in
    let dens : q.den ≡ p.den = eq_of_mul-eq-mul_left p.num some q.den p.den (cross ∙ ap (λ x. x * p.den) (sym nums)) in
    fraction_same p q nums (sym dens)

-- one form for each number
pub reduced-same : (n d m e : ℕ) → 0 < n → 0 < d → 0 < m → 0 < e → n * e ≡ m * d → reduced n d ≡ reduced m e
reduced-same n d m e n_some d_some m_some e_some cross =
    let parts : (reduced n d).num * (reduced m e).den ≡ (reduced m e).num * (reduced n d).den =
    parts_of_cross (gcd n d) (reduced n d).num (reduced n d).den (gcd m e) (reduced m e).num (reduced m e).den n d m e
    (num-whole n d) (den-whole n d) (num-whole m e) (den-whole m e) (gcd-pos n d n_some) (gcd-pos m e m_some) cross
    in
    lowest-same (reduced n d) (reduced m e) (reduced-positive n d n_some d_some).0 (reduced-positive m e m_some e_some).0
    (reduced-lowest n d n_some) (reduced-lowest m e m_some) parts

pub same-reduced : (n d m e : ℕ) → reduced n d ≡ reduced m e → n * e ≡ m * d
same-reduced n d m e same =
    cross_of_same (gcd n d) (reduced n d).num (reduced n d).den (gcd m e) (reduced m e).num (reduced m e).den n d m e
    (num-whole n d) (den-whole n d) (num-whole m e) (den-whole m e) (ap (λ q. q.num) same) (ap (λ q. q.den) same)

pub reduced-IsProper : (n d g : ℕ) → g ≡ gcd n d → 0 < n → 0 < d → n / g < 2 ^ 42 → d / g < 2 ^ 42 → IsProper (record { num = n / g; den = d / g })
unfolding reduced
reduced-IsProper n d g e some over low lower =
    let pos = reduced-positive n d some over in
    rw e (record {
      positive = pos.0;
      over_positive = pos.1;
      lowest = reduced-lowest n d some;
      in_range = (rw e at low, rw e at lower);
    })

pub proper-reduced : (q : Fraction) → IsProper q → reduced q.num q.den ≡ q
unfolding reduced
proper-reduced q h = rw h.lowest (fraction_same (fraction (q.num / 1) (q.den / 1)) q (omega arith) (omega arith))
