-- The replications so far and the next one.
use Rattle.std.proofs.Common.{◌≡◌, ℕ, zero, suc, ◌+◌, ◌-◌, ◌<◌, ◌≤◌, ◌⊎◌, inl, inr, Ok, Err, Some, List, [], ◌∷◌, ◌++◌, length, slice_get, refl, sym, subst, arith, length-append}
use Rattle.std.proofs.lemmas.Option.{slice_get_cases}
use Rattle.pepa_model.specs.PepaModel.{PepaModel}
use Rattle.sim_space.specs.declared.stop.Stop.{Stop}
use Rattle.sim_replication.specs.declared.order.Order.{Order}
use Rattle.sim_replication.specs.declared.ran.Ran.{Ran}
use Rattle.sim_replication.specs.declared.ran.Outcome.TheVariants.{Stopped}
use Rattle.sim_workers.specs.AllRuns.{IsRunNumbered, IsStopNumbered, AreFirstRuns, EachEndsBefore, AllRuns, AnswersNumbered}

-- an element of a list with one more at its end
before_or_last : {X : Type 0} (xs : List X) (y : X) (k : ℕ) (z : X) → slice_get (xs ++ y ∷ []) k ≡ Some z → (slice_get xs k ≡ Some z) ⊎ ((length xs ≡ k) × (y ≡ z))
before_or_last [] y zero z h = inr (refl, cc)
before_or_last [] y (suc k) z h = absurd cc
before_or_last (x ∷ xs) y zero z h = inl h
before_or_last (x ∷ xs) y (suc k) z h =
    elim (before_or_last xs y k z h) [
      | inl there ↦ inl there
      | inr (place, same) ↦ inr (omega (arith, place), same)
    ]

module _ (m : PepaModel) (order : Order) where
  pub none_yet : AreFirstRuns m order []
  none_yet k ran h = absurd cc

  -- one more replication that ends
  pub first_runs_more : (rans : List Ran) (ran : Ran) → AreFirstRuns m order rans → IsRunNumbered m order (length rans + 1) ran → AreFirstRuns m order (rans ++ ran ∷ [])
  first_runs_more rans ran are is k other h =
      elim (before_or_last rans ran k other h) [
        | inl there ↦ are k other there
        | inr (place, same) ↦
            let P : ℕ → Type 0 = λ n. IsRunNumbered m order (n + 1) other in
            subst P place (subst (IsRunNumbered m order (length rans + 1)) same is)
      ]

  pub ends_before : (rans : List Ran) (number : ℕ) → AreFirstRuns m order rans → number ≤ length rans + 1 → EachEndsBefore m order number
  ends_before rans number are few earlier from less =
      elim (slice_get_cases rans (earlier - 1)).1 [
        | inl (ran, within, is, _) ↦
            let P : ℕ → Type 0 = λ n. IsRunNumbered m order n ran in
            let same : earlier - 1 + 1 ≡ earlier = omega (arith, from) in
            (ran, subst P same (are (earlier - 1) ran is))
        | inr (past, _) ↦ absurd (omega (arith, past, few, from, less))
      ]

-- one more, by what was said of the model as it is now
pub count_more : (rans more : List Ran) (ran : Ran) (count : ℕ) → more ≡ rans ++ ran ∷ [] → length rans ≡ count → length more ≡ count + 1
count_more rans more ran count pushed is =
    let P : List Ran → Type 0 = λ l. length l ≡ count + 1 in
    let long = length-append rans (ran ∷ []) in
    let there : length (rans ++ ran ∷ []) ≡ count + 1 = omega (arith, long, is) in
    subst P (sym pushed) there

module _ (m n : PepaModel) (order : Order) (rans : List Ran) (count : ℕ) (same : n ≡ m) (is : length rans ≡ count) (are : AreFirstRuns m order rans) where
  pub run_more : (more : List Ran) (ran : Ran) → AnswersNumbered n order (count + 1) (Ok ran) → more ≡ rans ++ ran ∷ [] → AreFirstRuns m order more
  run_more more ran answer pushed =
      let M : PepaModel → Type 0 = λ x. IsRunNumbered x order (count + 1) ran in
      let N : ℕ → Type 0 = λ k. IsRunNumbered m order (k + 1) ran in
      subst (AreFirstRuns m order) (sym pushed) (first_runs_more m order rans ran are (subst N (sym is) (subst M same answer)))

  pub stopped_after : (stop : Stop) → count < order.runs → AnswersNumbered n order (count + 1) (Err stop) → AllRuns m order (Stopped (count + 1) stop)
  stopped_after stop less answer =
      let M : PepaModel → Type 0 = λ x. IsStopNumbered x order (count + 1) stop in
      ((omega arith, omega (arith, less)), subst M same answer, ends_before m order rans (count + 1) are (omega (arith, is)))
