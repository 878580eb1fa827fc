-- Facts on rounds of falling numbers.
use Rattle.std.proofs.Common.{◌≡◌, ℕ, zero, suc, ◌+◌, ◌-◌, ◌*◌, ◌/◌, ◌%◌, ◌^◌, ◌<◌, ◌≤◌, ◌≢◌, inl, inr, List, ◌∷◌, length, drop, get_or, refl, ap, ◌∙◌, arith, length-drop}
use Rattle.std.proofs.lemmas.Grind.{common_steps}
use Rattle.std.proofs.lemmas.Bool.{cases_lt}
use Rattle.sim_draws.specs.Numbers.{next_numbers}
use Rattle.sim_draws.specs.ExponentialDraw.{falls_below, run_length, after_rounds, RoundDecides, NoExponentialDraw, IsExponentialDraw}
use Rattle.sim_draws.proofs.NumberLists.{next_numbers-first, next_numbers-zero}

pub falls_below-on : (x y : ℕ) (ys : List ℕ) → y < x → falls_below x (y ∷ ys) ≡ suc (falls_below y ys)
falls_below-on x y ys h = grind (arith, common_steps)

pub falls_below-stops : (x y : ℕ) (ys : List ℕ) → x ≤ y → falls_below x (y ∷ ys) ≡ 0
falls_below-stops x y ys h = grind (arith, common_steps)

-- a round begins
pub round_begins : (at : ℕ → ℕ) (p most : ℕ) → 0 < most
    → run_length (next_numbers at p most) ≡ 1 + falls_below (at p) (next_numbers at (p + 1) (most - 1))
round_begins at p most h =
    let e : most ≡ most - 1 + 1 = omega arith in
    rw (next_numbers-first at p most (most - 1) e) (omega arith)

-- the next number is below the one before it
pub round_goes_on : (at : ℕ → ℕ) (q x most run : ℕ) → run < most → at q < x
    → falls_below x (next_numbers at q (most - run)) ≡ 1 + falls_below (at q) (next_numbers at (q + 1) (most - (run + 1)))
round_goes_on at q x most run h less =
    let e : most - run ≡ most - (run + 1) + 1 = omega arith in
    rw (next_numbers-first at q (most - run) (most - (run + 1)) e)
    (falls_below-on x (at q) (next_numbers at (q + 1) (most - (run + 1))) less ∙ omega arith)

-- it is not
pub round_stops : (at : ℕ → ℕ) (q x most run : ℕ) → run < most → x ≤ at q
    → falls_below x (next_numbers at q (most - run)) ≡ 0
round_stops at q x most run h less =
    let e : most - run ≡ most - (run + 1) + 1 = omega arith in
    rw (next_numbers-first at q (most - run) (most - (run + 1)) e)
    (falls_below-stops x (at q) (next_numbers at (q + 1) (most - (run + 1))) less)

-- there is none
pub round_ends : (at : ℕ → ℕ) (q x n : ℕ) → n ≡ 0 → falls_below x (next_numbers at q n) ≡ 0
round_ends at q x n e = rw (e, next_numbers-zero at q) refl

pub after_rounds-zero : (xs : List ℕ) → after_rounds 0 xs ≡ xs
unfolding after_rounds
after_rounds-zero xs = refl

pub after_rounds-suc : (n : ℕ) (xs : List ℕ) → after_rounds (suc n) xs ≡ drop (suc (run_length (after_rounds n xs))) (after_rounds n xs)
unfolding after_rounds
after_rounds-suc n xs = refl

-- after a round that does not end there is nothing
pub stays_whole : (xs : List ℕ) (n j : ℕ) → length (after_rounds n xs) ≤ run_length (after_rounds n xs)
    → length (after_rounds (n + j) xs) ≤ run_length (after_rounds (n + j) xs)
stays_whole xs n zero h = let e : n ≡ n + 0 = omega arith in rw (← e) h
stays_whole xs n (suc j) h =
    let e : n + suc j ≡ suc (n + j) = omega arith in
    let before = stays_whole xs n j h in
    let f : after_rounds (n + suc j) xs ≡ drop (suc (run_length (after_rounds (n + j) xs))) (after_rounds (n + j) xs) = rw e (after_rounds-suc (n + j) xs) in
    let g : length (after_rounds (n + suc j) xs) ≡ length (after_rounds (n + j) xs) - suc (run_length (after_rounds (n + j) xs))
    = ap length f ∙ length-drop (suc (run_length (after_rounds (n + j) xs))) (after_rounds (n + j) xs) in
    omega arith

pub undecided_after : (xs : List ℕ) (number : ℕ) → ((n : ℕ) → n < number → RoundDecides xs n → ⊥)
    → length (after_rounds number xs) ≤ run_length (after_rounds number xs) → NoExponentialDraw xs
undecided_after xs number none whole n d =
    elim (cases_lt n number) [
      | inl less ↦ none n less d
      | inr more ↦
          let e : n ≡ number + (n - number) = omega arith in
          let w = stays_whole xs number (n - number) whole in
          let w' : length (after_rounds n xs) ≤ run_length (after_rounds n xs) = rw (← e) at w in
          absurd (omega (arith, d.0))
    ]

pub decides_here : (xs ys : List ℕ) (number run first draw used : ℕ) → after_rounds number xs ≡ ys → run ≡ run_length ys → run_length ys < length ys
    → run % 2 ≡ 1 → ((n : ℕ) → n < number → RoundDecides xs n → ⊥) → first ≡ get_or ys 0 0
    → draw ≡ number * 2 ^ 32 + first / 2 ^ 32 → used + (length ys - (run + 1)) ≡ length xs → IsExponentialDraw xs draw used
decides_here xs ys number run first draw used e r less odd none f value taken = record {
  round = number;
  decides = rw e (less, rw (← r) odd);
  first = none;
  value = rw (e, ← f) value;
  taken =
      let g : length (after_rounds (suc number) xs) ≡ length ys - suc (run_length ys)
      = ap length (after_rounds-suc number xs) ∙ (rw e (length-drop (suc (run_length ys)) ys)) in
      omega arith;
}

-- a round that does not decide is passed
pub not_here : (xs ys : List ℕ) (number run : ℕ) → after_rounds number xs ≡ ys → run ≡ run_length ys → run % 2 ≢ 1
    → ((n : ℕ) → n < number → RoundDecides xs n → ⊥) → (n : ℕ) → n < number + 1 → RoundDecides xs n → ⊥
not_here xs ys number run e r even none n less d =
    elim (cases_lt n number) [
      | inl before ↦ none n before d
      | inr more ↦
          let same : n ≡ number = omega arith in
          let d' : RoundDecides xs number = rw (← same) d in
          let d2 : RoundDecides xs number = d' in
          let odd : run_length ys % 2 ≡ 1 = rw e at d2.1 in
          even (rw r odd)
    ]
