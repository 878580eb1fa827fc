-- Numbers as digits.
use Rattle.std.proofs.Common.{◌≡◌, ℕ, ◌+◌, ◌/◌, ◌%◌, ◌^◌, ◌<◌, ◌≤◌, [], ◌∷◌, ◌++◌, length, length-append, ap, arith}
use Rattle.std.specs.Fmt.{decimal}
use Rattle.std.proofs.lemmas.Fmt.{decimal_digit, decimal_step, length-decimal-le}

pub few_digits : (n : ℕ) → n < 2 ^ 64 → length (decimal n) ≤ 20
few_digits n h = length-decimal-le 20 n (omega arith) (omega arith) (omega arith)

pub digits_front : (n : ℕ) → 10 ≤ n → n < 2 ^ 64 → length (decimal (n / 10)) + 1 ≡ length (decimal n)
digits_front n ten h =
    let e = ap length (decimal_step n ten (omega arith)) in
    omega (arith, length-append (decimal (n / 10)) ((48 + n % 10) ∷ []))

pub digits_more : (n : ℕ) → 10 ≤ n → n < 2 ^ 64 → decimal n ≡ decimal (n / 10) ++ (48 + n % 10) ∷ []
digits_more n ten h = decimal_step n ten (omega arith)

pub digits_one : (n : ℕ) → n < 10 → decimal n ≡ (48 + n % 10) ∷ []
digits_one n h = let e : n % 10 ≡ n = omega arith in rw e (decimal_digit n h)
