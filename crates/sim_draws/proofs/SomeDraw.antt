-- A list of numbers has a draw or none.
use Rattle.std.proofs.Common.{◌≡◌, ℕ, zero, suc, ◌+◌, ◌-◌, ◌*◌, ◌/◌, ◌%◌, ◌^◌, ◌<◌, ◌≤◌, ◌⊎◌, inl, inr, List, length, get_or, refl, ap, ◌∙◌, subst, arith, length-drop}
use Rattle.std.proofs.lemmas.Bool.{cases_lt, cases_eq}
use Rattle.sim_draws.specs.ExponentialDraw.{run_length, after_rounds, RoundDecides, IsExponentialDraw, NoExponentialDraw}
use Rattle.sim_draws.specs.FairDraw.{IsDrawBelow, NoDrawBelow, fair_limit}
use Rattle.sim_draws.proofs.Rounds.{after_rounds-zero, after_rounds-suc}

-- ---- a search

-- the first number below the bound of which this holds
pub record FirstBelow (P : ℕ → Type 0) (bound : ℕ) : Type 0 where
  pub number : ℕ
  pub within : number < bound
  pub holds : P number
  pub first : (n : ℕ) → n < number → P n → ⊥

module _ (P : ℕ → Type 0) (each : (n : ℕ) → P n ⊎ (P n → ⊥)) where
  one_more : (k : ℕ) → FirstBelow P k ⊎ ((n : ℕ) → n < k → P n → ⊥) → P k ⊎ (P k → ⊥) → FirstBelow P (suc k) ⊎ ((n : ℕ) → n < suc k → P n → ⊥)
  one_more k (inl f) here = inl (record { number = f.number; within = omega (arith, f.within); holds = f.holds; first = f.first })
  one_more k (inr none) (inl here) = inl (record { number = k; within = omega arith; holds = here; first = none })
  one_more k (inr none) (inr never) =
      inr (λ n less h. elim (cases_lt n k) [ inl before ↦ none n before h | inr late ↦ (let same : n ≡ k = omega arith in never (subst P same h)) ])

  pub first_or_none : (bound : ℕ) → FirstBelow P bound ⊎ ((n : ℕ) → n < bound → P n → ⊥)
  first_or_none zero = inr (λ n less h. absurd (omega arith))
  first_or_none (suc k) = one_more k (first_or_none k) (each k)

-- ---- the exponential draw

-- each round takes a number at least
after_rounds-length : (xs : List ℕ) (n : ℕ) → length (after_rounds n xs) ≤ length xs - n
after_rounds-length xs zero = let e = ap length (after_rounds-zero xs) in omega arith
after_rounds-length xs (suc n) =
    let before = after_rounds-length xs n in
    let e = ap length (after_rounds-suc n xs) ∙ length-drop (suc (run_length (after_rounds n xs))) (after_rounds n xs) in
    omega arith

decides_or_not : (xs : List ℕ) (n : ℕ) → RoundDecides xs n ⊎ (RoundDecides xs n → ⊥)
decides_or_not xs n =
    elim (cases_lt (run_length (after_rounds n xs)) (length (after_rounds n xs))) [
      | inl whole ↦ elim (cases_eq (run_length (after_rounds n xs) % 2) 1) [
        | inl odd ↦ inl (whole, odd)
        | inr even ↦ inr (λ d. even d.1)
      ]
      | inr cut ↦ inr (λ d. absurd (omega (arith, d.0, cut)))
    ]

by_first : (xs : List ℕ) → FirstBelow (RoundDecides xs) (length xs) → (draw : ℕ) × ((used : ℕ) × IsExponentialDraw xs draw used)
by_first xs f =
    let short = after_rounds-length xs (suc f.number) in (
      f.number * 2 ^ 32 + get_or (after_rounds f.number xs) 0 0 / 2 ^ 32,
      (length xs - length (after_rounds (suc f.number) xs), record { round = f.number; decides = f.holds; first = f.first; value = refl; taken = omega arith }),
    )

pub some_exponential : (xs : List ℕ) → ((draw : ℕ) × ((used : ℕ) × IsExponentialDraw xs draw used)) ⊎ NoExponentialDraw xs
some_exponential xs =
    elim (first_or_none (RoundDecides xs) (decides_or_not xs) (length xs)) [
      | inl f ↦ inl (by_first xs f)
      | inr none ↦ inr (λ n d. elim (cases_lt n (length xs)) [ inl less ↦ none n less d | inr late ↦ (let short = after_rounds-length xs n in absurd (omega (arith, d.0, short, late))) ])
    ]

-- ---- the fair draw

pub some_below : (xs : List ℕ) (bound : ℕ) → ((draw : ℕ) × ((used : ℕ) × IsDrawBelow xs bound draw used)) ⊎ NoDrawBelow xs bound
some_below xs bound =
    let P : ℕ → Type 0 = λ k. get_or xs k 0 < fair_limit bound in
    let each : (k : ℕ) → P k ⊎ (P k → ⊥) = λ k. elim (cases_lt (get_or xs k 0) (fair_limit bound)) [ inl fair ↦ inl fair | inr late ↦ inr (λ fair. absurd (omega (arith, late, fair))) ] in
    elim (first_or_none P each (length xs)) [
      | inl f ↦ inl (
        get_or xs f.number 0 % bound,
        (
          f.number + 1,
          record {
            index = f.number;
            in_list = f.within;
            fair = f.holds;
            first = λ k less. elim (cases_lt (get_or xs k 0) (fair_limit bound)) [ inl fair ↦ absurd (f.first k less fair) | inr late ↦ late ];
            value = refl;
            taken = refl;
          },
        ),
      )
      | inr none ↦ inr (λ k less. elim (cases_lt (get_or xs k 0) (fair_limit bound)) [ inl fair ↦ absurd (none k less fair) | inr late ↦ late ])
    ]
