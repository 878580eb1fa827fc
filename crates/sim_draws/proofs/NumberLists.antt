-- Facts on lists of numbers from a place on.
use Rattle.std.proofs.Common.{◌≡◌, ℕ, zero, suc, ◌+◌, ◌-◌, ◌<◌, ◌≤◌, [], ◌∷◌, length, get_or, drop, refl, ap, ◌∙◌, add-one, arith}
use Rattle.sim_draws.specs.Numbers.{next_numbers}

pub length-next_numbers : (at : ℕ → ℕ) (p n : ℕ) → length (next_numbers at p n) ≡ n
unfolding next_numbers
length-next_numbers at p zero = refl
length-next_numbers at p (suc n) = ap suc (length-next_numbers at (p + 1) n)

pub next_numbers-zero : (at : ℕ → ℕ) (p : ℕ) → next_numbers at p 0 ≡ []
unfolding next_numbers
next_numbers-zero at p = refl

-- where there is one, the first comes at the place
pub next_numbers-first : (at : ℕ → ℕ) (p n m : ℕ) → n ≡ m + 1 → next_numbers at p n ≡ at p ∷ next_numbers at (p + 1) m
unfolding next_numbers
next_numbers-first at p n m e = rw (e, add-one) refl

pub index-next_numbers : (at : ℕ → ℕ) (p n k : ℕ) → k < n → get_or (next_numbers at p n) k 0 ≡ at (p + k)
unfolding next_numbers
index-next_numbers at p zero k h = absurd (omega arith)
index-next_numbers at p (suc n) zero h = let e : p ≡ p + 0 = omega arith in ap at e
index-next_numbers at p (suc n) (suc k) h =
    let less : k < n = omega arith in
    let e : p + 1 + k ≡ p + suc k = omega arith in
    index-next_numbers at (p + 1) n k less ∙ ap at e

pub drop-next_numbers : (at : ℕ → ℕ) (p n k : ℕ) → k ≤ n → drop k (next_numbers at p n) ≡ next_numbers at (p + k) (n - k)
unfolding next_numbers
drop-next_numbers at p n zero h =
    let e : p ≡ p + 0 = omega arith in
    let f : n ≡ n - 0 = omega arith in
    rw (← e, ← f) refl
drop-next_numbers at p zero (suc k) h = absurd (omega arith)
drop-next_numbers at p (suc n) (suc k) h =
    let less : k ≤ n = omega arith in
    let e : p + 1 + k ≡ p + suc k = omega arith in
    let f : n - k ≡ suc n - suc k = omega arith in
    rw (← e, ← f) (drop-next_numbers at (p + 1) n k less)
