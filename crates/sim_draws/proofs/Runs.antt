-- The run in front of a list.
use Rattle.std.proofs.Common.{◌≡◌, ℕ, zero, suc, ◌+◌, ◌-◌, ◌<◌, ◌≤◌, inl, inr, List, [], ◌∷◌, length, get_or, refl, arith}
use Rattle.std.proofs.lemmas.Bool.{cases_lt}
use Rattle.sim_draws.specs.ExponentialDraw.{falls_below, run_length}
use Rattle.sim_draws.proofs.Rounds.{falls_below-on, falls_below-stops}

falls_below-le_length : (x : ℕ) (xs : List ℕ) → falls_below x xs ≤ length xs
falls_below-le_length x [] = omega arith
falls_below-le_length x (y ∷ ys) = elim (cases_lt y x) [
  | inl less ↦
      let rest = falls_below-le_length y ys in
      let on = falls_below-on x y ys less in
      omega (arith, rest, on)
  | inr more ↦
      let stops = falls_below-stops x y ys more in
      omega (arith, stops)
]

pub run_length-le_length : (xs : List ℕ) → run_length xs ≤ length xs
run_length-le_length [] = omega arith
run_length-le_length (x ∷ xs) = let rest = falls_below-le_length x xs in omega (arith, rest)

-- each number of the run is below the one before it
falls : (x : ℕ) (xs : List ℕ) (k : ℕ) → k < falls_below x xs → get_or (x ∷ xs) (suc k) 0 < get_or (x ∷ xs) k 0
falls x [] k h = absurd (omega arith)
falls x (y ∷ ys) zero h = elim (cases_lt y x) [
  | inl less ↦ less
  | inr more ↦ let stops = falls_below-stops x y ys more in absurd (omega (arith, h, stops))
]
falls x (y ∷ ys) (suc k) h = elim (cases_lt y x) [
  | inl less ↦ let on = falls_below-on x y ys less in falls y ys k (omega (arith, h, on))
  | inr more ↦ let stops = falls_below-stops x y ys more in absurd (omega (arith, h, stops))
]

pub run_falls : (xs : List ℕ) (k : ℕ) → k + 1 < run_length xs → get_or xs (k + 1) 0 < get_or xs k 0
run_falls [] k h = absurd (omega arith)
run_falls (x ∷ xs) k h =
    let e : k + 1 ≡ suc k = omega arith in
    rw e (falls x xs k (omega arith))

-- the number after the run isn't below the last one of it
stops : (x : ℕ) (xs : List ℕ) (n : ℕ) → n ≡ falls_below x xs → n < length xs → get_or (x ∷ xs) n 0 ≤ get_or xs n 0
stops x [] n e h = absurd (omega arith)
stops x (y ∷ ys) zero e h = elim (cases_lt y x) [
  | inl less ↦ let on = falls_below-on x y ys less in absurd (omega (arith, e, on))
  | inr more ↦ more
]
stops x (y ∷ ys) (suc n) e h = elim (cases_lt y x) [
  | inl less ↦ let on = falls_below-on x y ys less in stops y ys n (omega (arith, e, on)) (omega arith)
  | inr more ↦ let ends = falls_below-stops x y ys more in absurd (omega (arith, e, ends))
]

pub run_is_longest : (xs : List ℕ) → 0 < run_length xs → run_length xs < length xs
    → get_or xs (run_length xs - 1) 0 ≤ get_or xs (run_length xs) 0
run_is_longest [] some h = absurd (omega arith)
run_is_longest (x ∷ xs) some h =
    let e : suc (falls_below x xs) - 1 ≡ falls_below x xs = omega arith in
    rw e (stops x xs (falls_below x xs) refl (omega arith))
