-- The apparent rates of a component, from those of its parts.
use Rattle.std.proofs.Common.{◌≡◌, ℕ, zero, suc, ◌<◌, List, [], ◌∷◌, ◌++◌, Result, Ok, Err, sym, ap, subst, ◌∙◌, arith}
use Rattle.std.specs.List.{AllByRecursion}
use Rattle.std.specs.BTreeMap.{BTreeMap}
use Rattle.pepa_rates.specs.declared.rate.Rate.{Rate}
use Rattle.pepa_rates.specs.declared.rate.RateFault.{RateFault}
use Rattle.pepa_model.specs.Expression.{Expression, Const, Prefixed, Chosen, Definition, Defines}
use Rattle.pepa_model.specs.Opened.{Opened, OpenPrefix, OpenChoice, OpenConst, Opens, parts}
use Rattle.pepa_model.specs.Apparent.{Apparent, NoRate, apparent_rate, together, IsFine, HasFault}
use Rattle.pepa_steps.specs.ApparentAnswers.{CanOpen}
use Rattle.pepa_steps.specs.ActionRates.{rate_in, AllFine, HasFineComponentRates, HasLeastFault, AreRatesOf, AnswersRates, IsRatesOfPrefix, AnswersChoice, rates_of_choice}
use Rattle.fault_ends.specs.declared.end.End.{End}
use Rattle.fault_ends.specs.declared.end.End.TheVariants.{Fault, Memory}
use Rattle.pepa_steps.proofs.Faults.{all_append, whole_from_parts, first_in_front, first_in_back, first_at_last}
use Rattle.pepa_steps.proofs.Opening.{opens_prefix, opens_choice, opens_const}

-- 0, or a number from 1 up
zero_or_more : (P : ℕ → Type 0) → P 0 → ((n : ℕ) → 0 < n → P n) → (n : ℕ) → P n
zero_or_more P z s zero = z
zero_or_more P z s (suc n) = s (suc n) (omega arith)

rates_fine : (entries : List (ℕ × Rate)) (o : Opened) → AllByRecursion HasFineComponentRates (parts o) → AreRatesOf entries o → AllFine entries
rates_fine entries o fine are =
    let whole = whole_from_parts HasFineComponentRates o fine in
    zero_or_more (λ n. IsFine (rate_in entries n)) (subst IsFine (sym are.no_tau) tt) (λ n positive. subst IsFine (sym (are.each n positive)) (whole n positive))

module _ (definitions : List Definition) where
  abbrev pub Answers : Expression → Result (BTreeMap ℕ Rate) (End RateFault) → Type 0
  Answers e result = (o : Opened) → Opens definitions e o → AnswersRates o result

  pub answered_fine : (e : Expression) (depth : ℕ) (rates : BTreeMap ℕ Rate) → CanOpen definitions e depth → Answers e (Ok rates) → AllFine rates.entries
  answered_fine e depth rates can answers =
      let h = answers can.opened can.opens in
      rates_fine rates.entries can.opened h.0 h.1

  of_prefix : (a : ℕ) (r : Rate) (next : Expression) (result : Result (BTreeMap ℕ Rate) (End RateFault)) → IsRatesOfPrefix a r result → AnswersRates (OpenPrefix a r next) result
  of_prefix a r next (Ok rates) h =
      ((λ n positive. subst IsFine (h.1 n positive) (h.0 n), tt), record { each = h.1; no_tau = h.2 })
  of_prefix a r next (Err (Fault fault)) h = absurd h
  of_prefix a r next (Err Memory) h = tt

  pub prefix_answers : (e : Expression) (a : ℕ) (r : Rate) (next : Expression) (result : Result (BTreeMap ℕ Rate) (End RateFault)) → e ≡ Prefixed a r next → IsRatesOfPrefix a r result → Answers e result
  prefix_answers e a r next result is h o opens =
      subst (λ (o : Opened). AnswersRates o result) (sym (opens_prefix definitions e a r next is o opens)) (of_prefix a r next result h)

  pub left_end : (e x y : Expression) (end : End RateFault) → e ≡ Chosen x y → Answers x (Err end) → Answers e (Err end)
  left_end e x y (Fault fault) is left o opens =
      let c = opens_choice definitions e x y is o opens in
      subst (λ (o : Opened). AnswersRates o (Err (Fault fault))) (sym c.whole)
      (first_in_front HasFineComponentRates HasLeastFault fault (parts c.left ++ parts c.right) (OpenChoice c.left c.right ∷ [])
      (first_in_front HasFineComponentRates HasLeastFault fault (parts c.left) (parts c.right) (left c.left c.opens_left)))
  left_end e x y Memory is left o opens = tt

  pub right_end : (e x y : Expression) (rates : BTreeMap ℕ Rate) (end : End RateFault) → e ≡ Chosen x y → Answers x (Ok rates) → Answers y (Err end) → Answers e (Err end)
  right_end e x y rates (Fault fault) is left right o opens =
      let c = opens_choice definitions e x y is o opens in
      subst (λ (o : Opened). AnswersRates o (Err (Fault fault))) (sym c.whole)
      (first_in_front HasFineComponentRates HasLeastFault fault (parts c.left ++ parts c.right) (OpenChoice c.left c.right ∷ [])
      (first_in_back HasFineComponentRates HasLeastFault fault (parts c.left) (parts c.right) (left c.left c.opens_left).0 (right c.right c.opens_right)))
  right_end e x y rates Memory is left right o opens = tt

  same_rates : (p q : Opened) (l r : List (ℕ × Rate)) → AreRatesOf l p → AreRatesOf r q → (n : ℕ) → 0 < n → rates_of_choice l r n ≡ apparent_rate (OpenChoice p q) n
  same_rates p q l r left right n positive =
      ap (λ (x : Apparent). together x (rate_in r n)) (left.each n positive) ∙ ap (λ (x : Apparent). together (apparent_rate p n) x) (right.each n positive)

  no_tau : (l r : List (ℕ × Rate)) → rate_in l 0 ≡ NoRate → rate_in r 0 ≡ NoRate → rates_of_choice l r 0 ≡ NoRate
  no_tau l r left right = ap (λ (x : Apparent). together x (rate_in r 0)) left ∙ right

  faulty_positive : (rate : ℕ → Apparent) (fault : RateFault) → rate 0 ≡ NoRate → (n : ℕ) → HasFault (rate n) fault → 0 < n
  faulty_positive rate fault none = zero_or_more_to (λ n. HasFault (rate n) fault) (λ h. subst (λ (x : Apparent). HasFault x fault) none h)
    where
      zero_or_more_to : (P : ℕ → Type 0) → (P 0 → ⊥) → (n : ℕ) → P n → 0 < n
      zero_or_more_to P z zero h = absurd (z h)
      zero_or_more_to P z (suc n) h = omega arith

  joined : (p q : Opened) (l r : BTreeMap ℕ Rate) (result : Result (BTreeMap ℕ Rate) (End RateFault)) → AnswersRates p (Ok l) → AnswersRates q (Ok r) → AnswersChoice l.entries r.entries result → AnswersRates (OpenChoice p q) result
  joined p q l r (Ok rates) left right both =
      let each : (n : ℕ) → 0 < n → rate_in rates.entries n ≡ apparent_rate (OpenChoice p q) n =
      λ n positive. both.1 n ∙ same_rates p q l.entries r.entries left.1 right.1 n positive in (
        all_append HasFineComponentRates (parts p ++ parts q) (OpenChoice p q ∷ []) (all_append HasFineComponentRates (parts p) (parts q) left.0 right.0)
            (λ n positive. subst IsFine (each n positive) (both.0 n), tt),
        record { each = each; no_tau = both.1 0 ∙ no_tau l.entries r.entries left.1.no_tau right.1.no_tau },
      )
  joined p q l r (Err (Fault fault)) left right both =
      let same = same_rates p q l.entries r.entries left.1 right.1 in
      let positive = faulty_positive (rates_of_choice l.entries r.entries) fault (no_tau l.entries r.entries left.1.no_tau right.1.no_tau) both.action both.faulty in
      first_at_last HasFineComponentRates HasLeastFault fault (parts p ++ parts q) (OpenChoice p q) (all_append HasFineComponentRates (parts p) (parts q) left.0 right.0)
      (record {
        action = both.action;
        counts = positive;
        faulty = subst (λ (x : Apparent). HasFault x fault) (same both.action positive) both.faulty;
        least = λ other above less. subst IsFine (same other above) (both.least other (omega arith) less);
      })
  joined p q l r (Err Memory) left right both = tt

  pub choice_answers : (e x y : Expression) (l r : BTreeMap ℕ Rate) (result : Result (BTreeMap ℕ Rate) (End RateFault)) → e ≡ Chosen x y
      → Answers x (Ok l) → Answers y (Ok r) → AnswersChoice l.entries r.entries result → Answers e result
  choice_answers e x y l r result is left right both o opens =
      let c = opens_choice definitions e x y is o opens in
      subst (λ (o : Opened). AnswersRates o result) (sym c.whole)
      (joined c.left c.right l r result (left c.left c.opens_left) (right c.right c.opens_right) both)

  above : (c : ℕ) (p : Opened) (result : Result (BTreeMap ℕ Rate) (End RateFault)) → AnswersRates p result → AnswersRates (OpenConst c p) result
  above c p (Ok rates) h =
      (all_append HasFineComponentRates (parts p) (OpenConst c p ∷ []) h.0 (whole_from_parts HasFineComponentRates p h.0, tt), record { each = h.1.each; no_tau = h.1.no_tau })
  above c p (Err (Fault fault)) h = first_in_front HasFineComponentRates HasLeastFault fault (parts p) (OpenConst c p ∷ []) h
  above c p (Err Memory) h = tt

  pub const_answers : (e : Expression) (c : ℕ) (body : Expression) (result : Result (BTreeMap ℕ Rate) (End RateFault)) → e ≡ Const c → Defines definitions c body → Answers body result → Answers e result
  const_answers e c body result is defined inner o opens =
      let k = opens_const definitions e c body is defined o opens in
      subst (λ (o : Opened). AnswersRates o result) (sym k.whole) (above c k.inner result (inner k.inner k.opens))
