-- Least common multiples, of two numbers and of the denominators of a list.
use Rattle.std.proofs.Common.{◌≡◌, ℕ, zero, suc, ◌+◌, ◌*◌, ◌/◌, ◌<◌, ◌≤◌, List, [], ◌∷◌, length, get_or, take, drop, fold, All, arith, sym, ◌∙◌, ap, subst}
use Rattle.std.specs.Int.{◌∣◌}
use Rattle.std.proofs.lemmas.Nat.Gcd.{dvd_refl, dvd-zero, dvd_trans, dvd_antisymm, le_of_dvd}
use Rattle.std.proofs.lemmas.List.Elements.{All-nil, All-cons, All-head, All-tail, All-take, All-drop, All-weaker}
use Rattle.std.proofs.lemmas.List.Sums.{fold-append, fold_more}
use Rattle.std.proofs.lemmas.List.{take-append-drop}
use Rattle.std.proofs.Math.Nat.{dvd-mul_right, dvd-mul_right_of_dvd, dvd-mul_left_of_dvd, mul_comm, one-dvd, mul-dvd-mul_right, dvd_of_mul-dvd-mul_left, mul-div_cancel', eq_of_mul-eq-mul_left, mul-pos}
use Rattle.pepa_rates.specs.Fraction.{Fraction, gcd}
use Rattle.pepa_rates.specs.Weights.{lcm, common_den, weight_of, IsLeastCommonDen}
use Rattle.pepa_rates.proofs.Divisors.{gcd-IsGcd, gcd-pos, gcd-mul_left}

-- the greatest common divisor, times the least common multiple, is the product
lcm-whole : (a b : ℕ) → gcd a b * lcm a b ≡ a * b
unfolding lcm
lcm-whole a b = mul-div_cancel' (gcd a b) (dvd-mul_right_of_dvd (gcd a b) (gcd-IsGcd a b).0 b)

-- a common factor of both sides is taken out
multiple_of : (g m a x y : ℕ) → 0 < g → g * m ≡ a * x → g * y ≡ x → m ≡ a * y
multiple_of g m a x y pos whole part = eq_of_mul-eq-mul_left g pos m (a * y) (whole ∙ ap (λ z. a * z) (sym part) ∙ omega arith)

pub lcm-first : (a b : ℕ) → 0 < a → a ∣ lcm a b
lcm-first a b pos =
    let g : ℕ = gcd a b in
    let split : g * (b / g) ≡ b = mul-div_cancel' g (gcd-IsGcd a b).1 in
    rw (multiple_of g (lcm a b) a b (b / g) (gcd-pos a b pos) (lcm-whole a b) split) (dvd-mul_right a (b / g))

pub lcm-second : (a b : ℕ) → 0 < a → b ∣ lcm a b
lcm-second a b pos =
    let g : ℕ = gcd a b in
    let split : g * (a / g) ≡ a = mul-div_cancel' g (gcd-IsGcd a b).0 in
    rw (multiple_of g (lcm a b) b a (a / g) (gcd-pos a b pos) (lcm-whole a b ∙ omega arith) split) (dvd-mul_right b (a / g))

pos_of_product : (g p n : ℕ) → g * p ≡ n → 0 < n → 0 < p
pos_of_product g zero n e h = absurd (omega arith)
pos_of_product g (suc p) n e h = omega arith

lcm-pos : (a b : ℕ) → 0 < a → 0 < b → 0 < lcm a b
lcm-pos a b h k = pos_of_product (gcd a b) (lcm a b) (a * b) (lcm-whole a b) (mul-pos h k)

-- it divides every common multiple
lcm-least : (a b n : ℕ) → 0 < a → a ∣ n → b ∣ n → lcm a b ∣ n
lcm-least a b zero pos h k = dvd-zero (lcm a b)
lcm-least a b (suc m) pos h k =
    let n : ℕ = suc m in
    let g : ℕ = gcd a b in
    let common = gcd-IsGcd (n * a) (n * b) in
    let in_first : a * b ∣ n * a = subst (λ x. x ∣ n * a) {x = b * a} (omega arith) (mul-dvd-mul_right b k a) in
    let in_second : a * b ∣ n * b = mul-dvd-mul_right a h b in
    let all : a * b ∣ n * g = subst (λ x. a * b ∣ x) (gcd-mul_left n a b (omega arith)) (common.2 (a * b) in_first in_second) in
    dvd_of_mul-dvd-mul_left (lcm a b) (gcd-pos a b pos) (subst (λ x. x ∣ g * n) (sym (lcm-whole a b)) (subst (λ x. a * b ∣ x) {x = n * g} (omega arith) all))

abbrev step : ℕ → Fraction → ℕ
step m q = lcm m q.den

abbrev PositiveDen : Fraction → Type 0
PositiveDen q = 0 < q.den

-- the least common multiple of a number and the denominators of a list
pub fold-pos : (m : ℕ) (rates : List Fraction) → 0 < m → All PositiveDen rates → 0 < fold step m rates
fold-pos m [] pos all = pos
fold-pos m (q ∷ rest) pos all =
    fold-pos (lcm m q.den) rest (lcm-pos m q.den pos (All-head PositiveDen q rest all)) (All-tail PositiveDen q rest all)

pub fold-start : (m : ℕ) (rates : List Fraction) → 0 < m → All PositiveDen rates → m ∣ fold step m rates
fold-start m [] pos all = dvd_refl m
fold-start m (q ∷ rest) pos all =
    dvd_trans m (lcm-first m q.den pos)
    (fold-start (lcm m q.den) rest (lcm-pos m q.den pos (All-head PositiveDen q rest all)) (All-tail PositiveDen q rest all))

fold-multiple : (m : ℕ) (rates : List Fraction) → 0 < m → All PositiveDen rates → All (λ q. q.den ∣ fold step m rates) rates
fold-multiple m [] pos all = All-nil (λ q. q.den ∣ m)
fold-multiple m (q ∷ rest) pos all =
    let more = lcm-pos m q.den pos (All-head PositiveDen q rest all) in
    let others = All-tail PositiveDen q rest all in
    All-cons (λ x. x.den ∣ fold step (lcm m q.den) rest) q rest
    (dvd_trans q.den (lcm-second m q.den pos) (fold-start (lcm m q.den) rest more others))
    (fold-multiple (lcm m q.den) rest more others)

fold-least :
    (m : ℕ) (rates : List Fraction) (n : ℕ)
    → 0 < m
    → All PositiveDen rates
    → m ∣ n
    → All (λ q. q.den ∣ n) rates
    → fold step m rates ∣ n
fold-least m [] n pos all h k = h
fold-least m (q ∷ rest) n pos all h k =
    fold-least (lcm m q.den) rest n (lcm-pos m q.den pos (All-head PositiveDen q rest all)) (All-tail PositiveDen q rest all)
    (lcm-least m q.den n pos h (All-head (λ x. x.den ∣ n) q rest k)) (All-tail (λ x. x.den ∣ n) q rest k)

pub common_den-is : (rates : List Fraction) → All PositiveDen rates → IsLeastCommonDen rates (common_den rates)
common_den-is rates all = record {
  multiple = fold-multiple 1 rates (omega arith) all;
  least = λ n k. fold-least 1 rates n (omega arith) all (one-dvd n) k;
}

pub common_den-one : (rates : List Fraction) (m n : ℕ) → IsLeastCommonDen rates m → IsLeastCommonDen rates n → m ≡ n
common_den-one rates m n h k = dvd_antisymm (h.least n k.multiple) (k.least m h.multiple)

-- the running least common multiple only grows
pub fold-grows : (m : ℕ) (rates : List Fraction) → 0 < m → All PositiveDen rates → m ≤ fold step m rates
fold-grows m rates pos all = le_of_dvd (fold-pos m rates pos all) (fold-start m rates pos all)

-- one more element
pub common_den-more :
    (rates : List Fraction) (i m part g : ℕ) (q : Fraction)
    → i < length rates
    → q ≡ get_or rates i q
    → part ≡ q.den
    → g ≡ gcd m part
    → m ≡ common_den (take i rates)
    → m * part / g ≡ common_den (take (i + 1) rates)
unfolding lcm
common_den-more rates i m part g q within is e f whole =
    let at : Fraction = get_or rates i q in
    let here : lcm m part ≡ step (common_den (take i rates)) at = ap (λ x. lcm x part) whole ∙ ap (lcm (common_den (take i rates))) (e ∙ ap (λ x. x.den) is) in
    ap (λ x. m * part / x) f ∙ here ∙ sym (fold_more step 1 rates i q within)

-- that of a front is at most the whole one
pub common_den-front : (rates : List Fraction) (i : ℕ) → All PositiveDen rates → common_den (take i rates) ≤ common_den rates
common_den-front rates i all =
    let front : ℕ = common_den (take i rates) in
    let pos = fold-pos 1 (take i rates) (omega arith) (All-take PositiveDen i rates all) in
    let whole : fold step front (drop i rates) ≡ common_den rates = sym (fold-append step 1 (take i rates) (drop i rates)) ∙ ap common_den (take-append-drop i rates) in
    subst (λ x. front ≤ x) whole (fold-grows front (drop i rates) pos (All-drop PositiveDen i rates all))

pub common_den-pos : (rates : List Fraction) (i : ℕ) → All PositiveDen rates → 0 < common_den (take i rates)
common_den-pos rates i all = fold-pos 1 (take i rates) (omega arith) (All-take PositiveDen i rates all)

-- each weight is exact
pub weights-exact : (rates : List Fraction) (m : ℕ) → IsLeastCommonDen rates m → All (λ q. weight_of m q * q.den ≡ q.num * m) rates
weights-exact rates m h =
    All-weaker (λ q. q.den ∣ m) (λ q. weight_of m q * q.den ≡ q.num * m)
    (λ q divides. mul_comm (weight_of m q) q.den ∙ mul-div_cancel' q.den (dvd-mul_left_of_dvd q.den divides q.num)) rates h.multiple
