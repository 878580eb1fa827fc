-- There is at most one draw.
use Rattle.std.proofs.Common.{◌≡◌, ℕ, zero, suc, ◌+◌, ◌-◌, ◌*◌, ◌/◌, ◌%◌, ◌^◌, ◌<◌, ◌≤◌, ◌⊎◌, inl, inr, List, length, get_or, sym, ap, ◌∙◌, subst, arith}
use Rattle.std.proofs.lemmas.Bool.{cases_lt}
use Rattle.std.proofs.Math.Nat.{mod-lt}
use Rattle.sim_draws.specs.ExponentialDraw.{after_rounds, RoundDecides, NoExponentialDraw, IsExponentialDraw}
use Rattle.sim_draws.specs.FairDraw.{IsDrawBelow, NoDrawBelow, fair_limit}

same_round : (xs : List ℕ) (d u e v : ℕ) (a : IsExponentialDraw xs d u) (b : IsExponentialDraw xs e v) → a.round ≡ b.round
same_round xs d u e v a b =
    elim (cases_lt a.round b.round) [
      | inl less ↦ absurd (b.first a.round less a.decides)
      | inr more ↦ elim (cases_lt b.round a.round) [
        | inl less ↦ absurd (a.first b.round less b.decides)
        | inr less ↦ omega arith
      ]
    ]

pub one_exponential : (xs : List ℕ) (d u e v : ℕ) → IsExponentialDraw xs d u → IsExponentialDraw xs e v → (d ≡ e) × (u ≡ v)
one_exponential xs d u e v a b =
    let s = same_round xs d u e v a b in
    let value : ℕ → ℕ = λ r. r * 2 ^ 32 + get_or (after_rounds r xs) 0 0 / 2 ^ 32 in
    let left = ap (λ (r : ℕ). length (after_rounds (suc r) xs)) s in
    (a.value ∙ ap value s ∙ sym b.value, omega (arith, a.taken, b.taken, left))

pub not_both : (xs : List ℕ) (d u : ℕ) → IsExponentialDraw xs d u → NoExponentialDraw xs → ⊥
not_both xs d u a none = none a.round a.decides

pub one_below : (xs : List ℕ) (bound d u e v : ℕ) → IsDrawBelow xs bound d u → IsDrawBelow xs bound e v → (d ≡ e) × (u ≡ v)
one_below xs bound d u e v a b =
    let same : a.index ≡ b.index = elim (cases_lt a.index b.index) [
      | inl less ↦ let f = b.first a.index less in absurd (omega (arith, a.fair, f))
      | inr more ↦ elim (cases_lt b.index a.index) [
        | inl less ↦ let f = a.first b.index less in absurd (omega (arith, b.fair, f))
        | inr less ↦ omega arith
      ]
    ] in
    (a.value ∙ ap (λ (k : ℕ). get_or xs k 0 % bound) same ∙ sym b.value, omega (arith, a.taken, b.taken, same))

pub none_below : (xs : List ℕ) (bound d u : ℕ) → IsDrawBelow xs bound d u → NoDrawBelow xs bound → ⊥
none_below xs bound d u a none = let late = none a.index a.in_list in omega (arith, a.fair, late)

-- the draw is below the bound, which isn't 0 where there is one
pub draw_within : (xs : List ℕ) (bound d u : ℕ) → IsDrawBelow xs bound d u → d < bound
draw_within xs zero d u a = absurd (let fair = a.fair in omega arith)
draw_within xs (suc bound) d u a = let less : get_or xs a.index 0 % suc bound < suc bound = mod-lt (get_or xs a.index 0) (omega arith) in omega (arith, a.value, less)
