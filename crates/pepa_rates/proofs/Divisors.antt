-- Greatest common divisors: Euclid's algorithm finds them, a common factor may be taken out, and Gauss's lemma.
use Rattle.std.proofs.Common.{◌≡◌, ℕ, zero, suc, ◌+◌, ◌*◌, ◌/◌, ◌%◌, ◌<◌, arith, refl, sym, ◌∙◌, ap, subst}
use Rattle.std.specs.Int.{IsGcd, ◌∣◌}
use Rattle.std.proofs.lemmas.Nat.{mod_below}
use Rattle.std.proofs.lemmas.Nat.Gcd.{IsGcd-from_zero, IsGcd-from_mod, dvd_antisymm}
use Rattle.std.proofs.Math.Nat.{pos_of_dvd_of_pos, dvd-mul_left, dvd-mul_right, mul-dvd-mul_left, dvd_of_mul-dvd-mul_left, mul-div_cancel'}
use Rattle.pepa_rates.specs.Fraction.{gcd, gcd_within}

gcd_within-IsGcd : (k a b : ℕ) → b < k → IsGcd a b (gcd_within k a b)
unfolding gcd_within
gcd_within-IsGcd zero a b h = absurd (omega arith)
gcd_within-IsGcd (suc k) a zero h = IsGcd-from_zero a zero refl
gcd_within-IsGcd (suc k) a (suc b) h =
    let low : a % suc b < suc b = mod_below a (suc b) (omega arith) in
    IsGcd-from_mod a (suc b) _ (gcd_within-IsGcd k (suc b) (a % suc b) (omega arith))

pub gcd-IsGcd : (a b : ℕ) → IsGcd a b (gcd a b)
unfolding gcd
gcd-IsGcd a b = gcd_within-IsGcd (b + 1) a b (omega arith)

pub gcd-pos : (a b : ℕ) → 0 < a → 0 < gcd a b
gcd-pos a b h = pos_of_dvd_of_pos (gcd-IsGcd a b).0 h

pub gcd-mul_left : (c a b : ℕ) → 0 < c → gcd (c * a) (c * b) ≡ c * gcd a b
gcd-mul_left c a b pos =
    let whole = gcd-IsGcd (c * a) (c * b) in
    let parts = gcd-IsGcd a b in
    let rest : ℕ = gcd (c * a) (c * b) / c in
    let split : c * rest ≡ gcd (c * a) (c * b) = mul-div_cancel' c (whole.2 c (dvd-mul_right c a) (dvd-mul_right c b)) in
    let in_a : rest ∣ a = dvd_of_mul-dvd-mul_left rest pos (subst (λ x. x ∣ c * a) (sym split) whole.0) in
    let in_b : rest ∣ b = dvd_of_mul-dvd-mul_left rest pos (subst (λ x. x ∣ c * b) (sym split) whole.1) in
    dvd_antisymm
    (subst (λ x. x ∣ c * gcd a b) split (mul-dvd-mul_left rest c (parts.2 rest in_a in_b)))
    (whole.2 (c * gcd a b) (mul-dvd-mul_left (gcd a b) c parts.0) (mul-dvd-mul_left (gcd a b) c parts.1))

-- Gauss's lemma
pub dvd_of_coprime : (a b c : ℕ) → gcd a b ≡ 1 → 0 < c → a ∣ c * b → a ∣ c
dvd_of_coprime a b c coprime pos h =
    let both : a ∣ gcd (c * a) (c * b) = (gcd-IsGcd (c * a) (c * b)).2 a (dvd-mul_left a c) h in
    let same : gcd (c * a) (c * b) ≡ c = gcd-mul_left c a b pos ∙ ap (λ x. c * x) coprime ∙ omega arith in
    subst (λ x. a ∣ x) same both
