-- What is kept of leaves.
use Rattle.std.proofs.Common.{◌≡◌, ℕ, ◌⊎◌, inl, inr, Some, slice_get, Ok, Err, Result, List, sym, subst}
use Rattle.std.specs.Ordering.{nat_cmp}
use Rattle.std.specs.BTreeMap.{BTreeMap, is_at}
use Rattle.std.specs.Map.{lookup}
use Rattle.pepa_rates.specs.declared.rate.Rate.{Rate}
use Rattle.pepa_model.specs.Expression.{Expression}
use Rattle.pepa_model.specs.Opened.{Opened, Opens}
use Rattle.pepa_model.specs.PepaModel.{PepaModel}
use Rattle.pepa_steps.specs.ActionRates.{AreRatesOf, AnswersRates}
use Rattle.pepa_steps.specs.KeptRates.{AnswersLeaf, kept_of, IsKeptRates, AreKeptRates, AnswersKept, AnswersKeeping}
use Rattle.pepa_rates.specs.declared.rate.RateFault.{RateFault}
use Rattle.fault_ends.specs.declared.end.End.{End}
use Rattle.fault_ends.specs.declared.end.End.TheVariants.{Fault, Memory}
use Rattle.pepa_steps.specs.declared.leaf_rates.LeafRates.{LeafRates}
use Rattle.pepa_steps.specs.declared.leaf_rates.LeafRates.TheVariants.{Rated, Faulty}

module _ (m : PepaModel) (leaf : ℕ) where
  same_answer : (e : Expression) → slice_get m.leaves leaf ≡ Some e → (result : Result (BTreeMap ℕ Rate) (End RateFault)) → ((o : Opened) → Opens m.bodies e o → AnswersRates o result) → AnswersLeaf m leaf result
  same_answer e at result answers f there o opens =
      let same : f ≡ e = cc (at, there) in
      answers o (subst (λ (x : Expression). Opens m.bodies x o) same opens)

  -- what was found of the leaf's component is found of the leaf
  pub found_leaf : (e : Expression) → slice_get m.leaves leaf ≡ Some e → (found : LeafRates) → ((o : Opened) → Opens m.bodies e o → AnswersRates o (kept_of found)) → IsKeptRates m leaf found
  found_leaf e at found answers = same_answer e at (kept_of found) answers

  -- the copy of what is kept is the leaf's answer
  pub kept_answers : (found : LeafRates) (result : Result (BTreeMap ℕ Rate) (End RateFault)) → IsKeptRates m leaf found → AnswersKept found result → AnswersLeaf m leaf result
  kept_answers (Rated rates) (Ok copy) kept same e at o opens =
      let h = kept e at o opens in
      (h.0, subst (λ (entries : List (ℕ × Rate)). AreRatesOf entries o) (sym same) h.1)
  kept_answers (Faulty fault) (Ok copy) kept same e at o opens = absurd same
  kept_answers (Rated rates) (Err (Fault other)) kept same e at o opens = absurd same
  kept_answers (Faulty fault) (Err (Fault other)) kept same e at o opens =
      subst (λ f. AnswersRates o (Err (Fault f))) same (kept e at o opens)
  kept_answers (Rated rates) (Err Memory) kept same e at o opens = tt
  kept_answers (Faulty fault) (Err Memory) kept same e at o opens = tt

  -- one more that is kept
  pub kept_more : (old new : List (ℕ × LeafRates)) (found : LeafRates) (result : Result (Unit {0}) (End RateFault)) → AreKeptRates m old → IsKeptRates m leaf found → AnswersKeeping old new leaf found result → AreKeptRates m new
  kept_more old new found (Ok _) are is keeps = λ other kept at. of_cases other kept (keeps other kept at)
    where
      of_cases : (other : ℕ) (kept : LeafRates) → ((other ≡ leaf) × (kept ≡ found)) ⊎ (lookup (is_at (nat_cmp other)) old ≡ Some kept) → IsKeptRates m other kept
      of_cases other kept (inl (here, same)) = subst (λ n. IsKeptRates m n kept) (sym here) (subst (λ (k : LeafRates). IsKeptRates m leaf k) (sym same) is)
      of_cases other kept (inr there) = are other kept there
  kept_more old new found (Err (Fault fault)) are is keeps = absurd keeps
  kept_more old new found (Err Memory) are is keeps = subst (λ (l : List (ℕ × LeafRates)). AreKeptRates m l) (sym keeps) are
