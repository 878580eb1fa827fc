-- Sets of action types, whose numbers ascend, and what a binary search says of them.
use Rattle.std.proofs.Common.{◌≡◌, ◌≢◌, ℕ, suc, ◌<◌, ◌≤◌, ◌⊎◌, inl, inr, false, ◌||◌, List, [], ◌∷◌, length, get_or, Ok, Err, refl, sym, ap, ◌∙◌, arith}
use Rattle.std.specs.Prelude.{◌==◌, Bool, Result, is_ok}
use Rattle.std.specs.Ordering.{nat_cmp}
use Rattle.std.specs.List.Sorted.{IsStrictlyIncreasing, IsBinarySearchResult}
use Rattle.std.specs.Result.{MatchResult}
use Rattle.std.proofs.lemmas.Bool.{cases_eq, cases_lt, eq-eqb, ne_eqb}
use Rattle.std.proofs.lemmas.List.Folds.{list_any_at}
use Rattle.std.proofs.lemmas.List.Kept.{AllPairs-from_increasing}
use Rattle.std.proofs.lemmas.List.Sorted.{searched}
use Rattle.pepa_steps.specs.States.{has}

-- no type is lower than one in front of it
rises : (types : List ℕ) → IsStrictlyIncreasing types → (i j : ℕ) → i ≤ j → j < length types → get_or types i 0 ≤ get_or types j 0
rises types up i j le within = of_cases (cases_eq i j)
  where
    of_cases : (i ≡ j) ⊎ (i ≡ j → ⊥) → get_or types i 0 ≤ get_or types j 0
    of_cases (inl e) = omega (arith, ap (λ (k : ℕ). get_or types k 0) e)
    of_cases (inr ne) =
        let lt : i < j = omega (arith, le, ne) in
        omega (arith, AllPairs-from_increasing types up i j 0 lt within)

-- an action that differs from each type isn't among them
not_among : (types : List ℕ) (action : ℕ) → ((k : ℕ) → k < length types → action ≢ get_or types k 0) → has types action ≡ false
not_among [] action h = refl
not_among (a ∷ types) action h =
    ap (λ (b : Bool). b || has types action) (ne_eqb action a (h 0 (omega arith)))
    ∙ not_among types action (λ k below. h (suc k) (omega (arith, below)))

of_search : (types : List ℕ) (action : ℕ) (r : Result ℕ ℕ)
    → MatchResult r (λ i. (i < length types) × (get_or types i 0 ≡ action))
    (λ i. (i ≤ length types) × ((k : ℕ) → k < i → get_or types k 0 < action) × ((k : ℕ) → i ≤ k → k < length types → action < get_or types k 0))
    → is_ok r ≡ has types action
of_search types action (Ok i) h = sym (list_any_at (λ other. action == other) types i 0 h.0 (eq-eqb action (get_or types i 0) (sym h.1)))
of_search types action (Err i) h = sym (not_among types action (λ k below e. differs k below e (cases_lt k i)))
  where
    differs : (k : ℕ) → k < length types → action ≡ get_or types k 0 → (k < i) ⊎ (i ≤ k) → ⊥
    differs k below e (inl lt) = omega (arith, e, h.1 k lt)
    differs k below e (inr le) = omega (arith, e, h.2 k le below)

-- a binary search finds just what is among the types
pub search_finds : (types : List ℕ) (action : ℕ) (r : Result ℕ ℕ) → IsStrictlyIncreasing types → IsBinarySearchResult (λ y. nat_cmp y action) types r → is_ok r ≡ has types action
search_finds types action r up h = of_search types action r (searched types action r h (rises types up))
