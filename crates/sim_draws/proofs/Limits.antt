-- The numbers below a multiple of the bound.
use Rattle.std.proofs.Common.{◌≡◌, ℕ, ◌+◌, ◌-◌, ◌*◌, ◌/◌, ◌%◌, ◌^◌, ◌<◌, ◌≤◌, refl, ap, ◌∙◌, arith}
use Rattle.std.proofs.Math.Nat.{add-mod-mod, mod-add-div', mul-le-mul_right}
use Rattle.sim_draws.specs.FairDraw.{fair_limit}

whole : (m n b : ℕ) → n ≡ m + 1 → 0 < b → b ≤ n → m - (m % b + 1) % b + 1 ≡ n / b * b
whole m n b e h small =
    let f : m % b + 1 ≡ 1 + m % b = omega arith in
    let f2 : 1 + m ≡ n = omega arith in
    let g : (m % b + 1) % b ≡ n % b = ap (λ (x : ℕ). x % b) f ∙ add-mod-mod 1 m b ∙ ap (λ (x : ℕ). x % b) f2 in
    let split = mod-add-div' n b in
    rw g (omega arith)

pub last_fair-is : (bound : ℕ) → 0 < bound → bound < 2 ^ 62
    → 18446744073709551615 - (18446744073709551615 % bound + 1) % bound + 1 ≡ fair_limit bound
last_fair-is bound h small = whole 18446744073709551615 18446744073709551616 bound refl h (omega arith)

-- a row of numbers and a place in it make a number below all rows
pub in_rows : (bound row draw rows : ℕ) → row < rows → draw < bound → row * bound + draw < rows * bound
in_rows bound row draw rows h k =
    let whole : (row + 1) * bound ≤ rows * bound = mul-le-mul_right bound (omega arith) in
    omega (arith, whole)
