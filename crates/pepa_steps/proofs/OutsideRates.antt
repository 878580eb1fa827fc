-- The rates of a cooperation: those of its left side, with the right side's by types outside the set added.
use Rattle.std.proofs.Common.{◌≡◌, ℕ, ◌<◌, Bool, true, false, not, cond, ◌⊎◌, List, [], ◌∷◌, map, filter, refl, sym, ap, subst, ◌∙◌, inl, inr, if◌then◌else◌, Result, Ok, Err}
use Rattle.std.specs.Ordering.{nat_cmp, is_eq}
use Rattle.std.specs.BTreeMap.{BTreeMap}
use Rattle.std.specs.List.Sorted.{IsStrictlySortedBy}
use Rattle.std.proofs.lemmas.Bool.{cases_order}
use Rattle.std.proofs.lemmas.List.Kept.{IsStrictlySortedBy-filter}
use Rattle.pepa_rates.specs.declared.rate.Rate.{Rate}
use Rattle.pepa_model.specs.Apparent.{Apparent, NoRate, together, IsFine, HasFault}
use Rattle.pepa_steps.specs.States.{has}
use Rattle.pepa_steps.specs.OpenStates.{least_if_both}
use Rattle.pepa_steps.specs.ActionRates.{rate_in, AllFine, rates_of_choice, AnswersChoice}
use Rattle.pepa_steps.specs.StateRates.{AnswersRatesBy, rates_of_cooperation}
use Rattle.pepa_steps.specs.CooperationRates.{rates_of_left, rates_outside}
use Rattle.pepa_rates.specs.declared.rate.RateFault.{RateFault}
use Rattle.fault_ends.specs.declared.end.End.{End}
use Rattle.fault_ends.specs.declared.end.End.TheVariants.{Fault, Memory}
use Rattle.pepa_steps.proofs.RateMaps.{LoopKeeps, at_other, at_own, same_action, below_action, above_action, together-NoRate}

tests : (b : Bool) → (b ≡ true) ⊎ (b ≡ false)
tests true = inl refl
tests false = inr refl

same_or_other : (a k : ℕ) → (a ≡ k) ⊎ (is_eq (nat_cmp a k) ≡ false)
same_or_other a k = of_cases (cases_order a k)
  where
    of_cases : (a ≡ k) ⊎ ((a < k) ⊎ (k < a)) → (a ≡ k) ⊎ (is_eq (nat_cmp a k) ≡ false)
    of_cases (inl e) = inl e
    of_cases (inr (inl lt)) = inr (below_action a k lt)
    of_cases (inr (inr gt)) = inr (above_action a k gt)

module _ (types : List ℕ) where
  pub outside_tail : (k : ℕ) (r : Rate) (rest : List (ℕ × Rate)) → has types k ≡ true → rates_outside types ((k, r) ∷ rest) ≡ rates_outside types rest
  outside_tail k r rest is = ap (λ (b : Bool). cond (not b) ((k, r) ∷ rates_outside types rest) (rates_outside types rest)) is

  pub outside_head : (k : ℕ) (r : Rate) (rest : List (ℕ × Rate)) → has types k ≡ false → rates_outside types ((k, r) ∷ rest) ≡ ((k, r) ∷ rates_outside types rest)
  outside_head k r rest is = ap (λ (b : Bool). cond (not b) ((k, r) ∷ rates_outside types rest) (rates_outside types rest)) is

  keys : (entries : List (ℕ × Rate)) → map (λ e. e.0) (rates_outside types entries) ≡ filter (λ k. not (has types k)) (map (λ e. e.0) entries)
  keys [] = refl
  keys ((k, r) ∷ rest) = of_test (not (has types k)) (keys rest)
    where
      of_test : (b : Bool) → map (λ e. e.0) (rates_outside types rest) ≡ filter (λ k. not (has types k)) (map (λ e. e.0) rest)
          → map (λ e. e.0) (cond b ((k, r) ∷ rates_outside types rest) (rates_outside types rest))
          ≡ cond b (k ∷ filter (λ k. not (has types k)) (map (λ e. e.0) rest)) (filter (λ k. not (has types k)) (map (λ e. e.0) rest))
      of_test true h = ap (λ (l : List ℕ). k ∷ l) h
      of_test false h = h

  outside_ascends : (entries : List (ℕ × Rate)) → IsStrictlySortedBy nat_cmp (map (λ e. e.0) entries) → IsStrictlySortedBy nat_cmp (map (λ e. e.0) (rates_outside types entries))
  outside_ascends entries h =
      subst (λ (l : List ℕ). IsStrictlySortedBy nat_cmp l) (sym (keys entries)) (IsStrictlySortedBy-filter nat_cmp (λ k. not (has types k)) (map (λ e. e.0) entries) h)

  differ : (a k : ℕ) (b c : Bool) → has types a ≡ b → has types k ≡ c → (b ≡ c → ⊥) → is_eq (nat_cmp a k) ≡ false
  differ a k b c is is_k apart = of_cases (same_or_other a k)
    where
      of_cases : (a ≡ k) ⊎ (is_eq (nat_cmp a k) ≡ false) → is_eq (nat_cmp a k) ≡ false
      of_cases (inl e) = absurd (apart (sym is ∙ ap (has types) e ∙ is_k))
      of_cases (inr differs) = differs

  -- a type in the set has no entry outside it
  none_inside : (a : ℕ) → has types a ≡ true → (entries : List (ℕ × Rate)) → rate_in (rates_outside types entries) a ≡ NoRate
  none_inside a is [] = refl
  none_inside a is ((k, r) ∷ rest) = of_test (tests (has types k)) (none_inside a is rest)
    where
      of_test : (has types k ≡ true) ⊎ (has types k ≡ false) → rate_in (rates_outside types rest) a ≡ NoRate → rate_in (rates_outside types ((k, r) ∷ rest)) a ≡ NoRate
      of_test (inl inside) h = ap (λ (l : List (ℕ × Rate)). rate_in l a) (outside_tail k r rest inside) ∙ h
      of_test (inr out) h =
          ap (λ (l : List (ℕ × Rate)). rate_in l a) (outside_head k r rest out)
          ∙ at_other a k r (rates_outside types rest) (differ a k true false is out (λ e. absurd cc))
          ∙ h

  -- and another type keeps its own
  same_outside : (a : ℕ) → has types a ≡ false → (entries : List (ℕ × Rate)) → rate_in (rates_outside types entries) a ≡ rate_in entries a
  same_outside a is [] = refl
  same_outside a is ((k, r) ∷ rest) = of_test (tests (has types k)) (same_outside a is rest)
    where
      of_head : (a ≡ k) ⊎ (is_eq (nat_cmp a k) ≡ false) → rate_in (rates_outside types rest) a ≡ rate_in rest a → rate_in ((k, r) ∷ rates_outside types rest) a ≡ rate_in ((k, r) ∷ rest) a
      of_head (inl e) h =
          subst (λ (n : ℕ). rate_in ((k, r) ∷ rates_outside types rest) n ≡ rate_in ((k, r) ∷ rest) n) (sym e)
          (at_own k r (rates_outside types rest) (same_action k) ∙ sym (at_own k r rest (same_action k)))
      of_head (inr differs) h = at_other a k r (rates_outside types rest) differs ∙ h ∙ sym (at_other a k r rest differs)

      of_test : (has types k ≡ true) ⊎ (has types k ≡ false) → rate_in (rates_outside types rest) a ≡ rate_in rest a → rate_in (rates_outside types ((k, r) ∷ rest)) a ≡ rate_in ((k, r) ∷ rest) a
      of_test (inl inside) h =
          ap (λ (l : List (ℕ × Rate)). rate_in l a) (outside_tail k r rest inside) ∙ h ∙ sym (at_other a k r rest (differ a k false true is inside (λ e. absurd cc)))
      of_test (inr out) h = ap (λ (l : List (ℕ × Rate)). rate_in l a) (outside_head k r rest out) ∙ of_head (same_or_other a k) h

  pub begins_outside : (first others : List (ℕ × Rate)) → AllFine first → IsStrictlySortedBy nat_cmp (map (λ e. e.0) others) → LoopKeeps first (rates_outside types others) first (rates_outside types others)
  begins_outside first others fine ascending = record { total = λ action. refl; fine = fine; ascending = outside_ascends others ascending }

  -- ---- the whole

  module _ (left right first : List (ℕ × Rate)) (made : (action : ℕ) → rate_in first action ≡ rates_of_left types left right action) where
    of_sides : (b : Bool) (x y z : Apparent) → (b ≡ true → z ≡ NoRate) → (b ≡ false → z ≡ y)
        → together (if b then least_if_both x y else x) z ≡ (if b then least_if_both x y else together x y)
    of_sides true x y z none same = ap (λ (v : Apparent). together (least_if_both x y) v) (none refl) ∙ together-NoRate (least_if_both x y)
    of_sides false x y z none same = ap (λ (v : Apparent). together x v) (same refl)

    same_rates : (a : ℕ) → rates_of_choice first (rates_outside types right) a ≡ rates_of_cooperation types left right a
    same_rates a =
        ap (λ (x : Apparent). together x (rate_in (rates_outside types right) a)) (made a)
        ∙ of_sides (has types a) (rate_in left a) (rate_in right a) (rate_in (rates_outside types right) a) (λ is. none_inside a is right) (λ is. same_outside a is right)

    pub of_both : (result : Result (BTreeMap ℕ Rate) (End RateFault)) → AnswersChoice first (rates_outside types right) result → AnswersRatesBy (rates_of_cooperation types left right) result
    of_both (Ok found) h = (h.0, λ action. h.1 action ∙ same_rates action)
    of_both (Err (Fault fault)) h = record {
      action = h.action;
      counts = h.counts;
      faulty = subst (λ (x : Apparent). HasFault x fault) (same_rates h.action) h.faulty;
      least = λ other counts less. subst IsFine (same_rates other) (h.least other counts less);
    }
    of_both (Err Memory) h = tt
