-- A model and an order have at most one outcome.
use Rattle.std.proofs.Common.{◌≡◌, ℕ, suc, ◌+◌, ◌<◌, ◌≤◌, inl, inr, Some, List, [], ◌∷◌, length, slice_get, refl, ap, sym, ◌∙◌, subst, arith}
use Rattle.std.proofs.lemmas.Bool.{cases_lt}
use Rattle.pepa_model.specs.PepaModel.{PepaModel}
use Rattle.sim_space.specs.declared.stop.Stop.{Stop}
use Rattle.sim_replication.specs.declared.order.Order.{Order}
use Rattle.sim_replication.specs.declared.ran.Ran.{Ran}
use Rattle.sim_replication.specs.declared.ran.Outcome.{Outcome}
use Rattle.sim_replication.specs.declared.ran.Outcome.TheVariants.{Finished, Stopped}
use Rattle.sim_replication.specs.Orders.{numbers_of}
use Rattle.sim_replication.proofs.OneRun as runs
use Rattle.sim_workers.specs.AllRuns.{IsRunNumbered, IsStopNumbered, EachEndsBefore, AllRuns}
use Rattle.sim_workers.proofs.RunLists.{ends_before}

-- lists of one length with the same elements
same_list : {X : Type 0} (xs ys : List X) → length xs ≡ length ys
    → ((k : ℕ) (x y : X) → slice_get xs k ≡ Some x → slice_get ys k ≡ Some y → x ≡ y) → xs ≡ ys
same_list [] [] e h = refl
same_list [] (y ∷ ys) e h = absurd (omega (arith, e))
same_list (x ∷ xs) [] e h = absurd (omega (arith, e))
same_list {X = X} (x ∷ xs) (y ∷ ys) e h =
    ap (λ (l : List X). x ∷ l) (same_list xs ys (omega (arith, e)) (λ k a b p q. h (suc k) a b p q)) ∙ ap (λ (z : X). z ∷ ys) (h 0 x y refl refl)

module _ (m : PepaModel) (order : Order) where
  one_ran : (number : ℕ) (a b : Ran) → IsRunNumbered m order number a → IsRunNumbered m order number b → a ≡ b
  one_ran number a b h k = (runs.one_run m order (numbers_of order number) h.0 k.0 h.1.0 k.1.0 a b h.1.1 k.1.1).2

  one_stop : (number : ℕ) (s t : Stop) → IsStopNumbered m order number s → IsStopNumbered m order number t → s ≡ t
  one_stop number s t h k = (runs.one_stopped_run m order (numbers_of order number) h.0 k.0 h.1.0 k.1.0 s t h.1.1 k.1.1).2

  ends_or_stops : (number : ℕ) (ran : Ran) (stop : Stop) → IsRunNumbered m order number ran → IsStopNumbered m order number stop → ⊥
  ends_or_stops number ran stop h k = runs.run_or_stop m order (numbers_of order number) h.0 k.0 h.1.0 k.1.0 ran stop h.1.1 k.1.1

  pub none_earlier : (number earlier : ℕ) (stop : Stop) → EachEndsBefore m order number → 1 ≤ earlier → earlier < number → IsStopNumbered m order earlier stop → ⊥
  none_earlier number earlier stop ends from less stops =
      let one = ends earlier from less in
      ends_or_stops earlier one.0 stop one.1 stops

  finished_or_stopped : (rans : List Ran) (number : ℕ) (stop : Stop) → AllRuns m order (Finished rans) → AllRuns m order (Stopped number stop) → ⊥
  finished_or_stopped rans number stop h k =
      let length_is = h.0 in
      let ends = ends_before m order rans (number + 1) h.1 (omega (arith, length_is, k.0.1)) in
      none_earlier (number + 1) number stop ends k.0.0 (omega arith) k.1

  pub one_outcome : (a b : Outcome) → AllRuns m order a → AllRuns m order b → a ≡ b
  one_outcome (Finished xs) (Finished ys) h k =
      ap (λ (l : List Ran). Finished l) (same_list xs ys (h.0 ∙ sym k.0) (λ i a b p q. one_ran (i + 1) a b (h.1 i a p) (k.1 i b q)))
  one_outcome (Finished xs) (Stopped n s) h k = absurd (finished_or_stopped xs n s h k)
  one_outcome (Stopped n s) (Finished ys) h k = absurd (finished_or_stopped ys n s k h)
  one_outcome (Stopped n s) (Stopped i t) h k =
      elim (cases_lt n i) [
        | inl less ↦ absurd (none_earlier i n s k.2 h.0.0 less h.1)
        | inr more ↦ elim (cases_lt i n) [
          | inl less ↦ absurd (none_earlier n i t h.2 k.0.0 less k.1)
          | inr less ↦
              let same : i ≡ n = omega (arith, more, less) in
              let P : ℕ → Type 0 = λ j. IsStopNumbered m order j t in
              ap (λ (x : Stop). let o : Outcome = Stopped n x in o) (one_stop n s t h.1 (subst P same k.1)) ∙ ap (λ (j : ℕ). let o : Outcome = Stopped j t in o) (sym same)
        ]
      ]
