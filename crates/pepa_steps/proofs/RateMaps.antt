-- Adding the rates of one map to another, entry by entry in ascending order.
use Rattle.std.proofs.Common.{◌≡◌, ◌≢◌, ℕ, ◌<◌, Bool, true, false, cond, ◌⊎◌, List, [], ◌∷◌, map, refl, sym, ap, subst, ◌∙◌, inl, inr, arith, Some, Err}
use Rattle.std.specs.Ordering.{nat_cmp, is_eq}
use Rattle.std.specs.declared.cmp.Ordering.TheVariants.{Less, Equal, Greater}
use Rattle.std.specs.Cmp.{nat_cmp_is}
use Rattle.std.specs.BTreeMap.{is_at}
use Rattle.std.specs.Map.{lookup}
use Rattle.std.specs.List.{AllByRecursion}
use Rattle.std.specs.List.Sorted.{IsStrictlySortedBy}
use Rattle.std.proofs.lemmas.Bool.{cases_order}
use Rattle.std.proofs.lemmas.Map.Keys.{sorted_head, sorted_tail}
use Rattle.pepa_rates.specs.declared.rate.Rate.{Rate}
use Rattle.pepa_rates.specs.declared.rate.RateFault.{RateFault}
use Rattle.pepa_model.specs.Apparent.{Apparent, NoRate, Rated, Undefined, together, IsFine, HasFault}
use Rattle.pepa_model.specs.Verdict.{IsLeastFault}
use Rattle.pepa_steps.specs.ActionRates.{rate_in, AllFine, AddsRate, rates_of_choice, AnswersAddition, AnswersChoice}
use Rattle.fault_ends.specs.declared.end.End.{End}
use Rattle.fault_ends.specs.declared.end.End.TheVariants.{Fault, Memory}
use Rattle.pepa_steps.specs.ApparentAnswers.{apparent_of}

-- what is so far and what is left come to the rates of the choice
pub record LoopKeeps (left right all rest : List (ℕ × Rate)) : Type 0 where
  pub total : (action : ℕ) → together (rate_in all action) (rate_in rest action) ≡ rates_of_choice left right action
  pub fine : AllFine all
  pub ascending : IsStrictlySortedBy nat_cmp (map (λ e. e.0) rest)

pub together-NoRate : (x : Apparent) → together x NoRate ≡ x
together-NoRate NoRate = refl
together-NoRate (Rated r) = refl
together-NoRate Undefined = refl

-- a look-up for an action, in entries that begin with another's or its own
pub at_other : (other action : ℕ) (rate : Rate) (rest : List (ℕ × Rate)) → is_eq (nat_cmp other action) ≡ false → rate_in ((action, rate) ∷ rest) other ≡ rate_in rest other
at_other other action rate rest apart = ap (λ (b : Bool). apparent_of (cond b (Some rate) (lookup (is_at (nat_cmp other)) rest))) apart

pub at_own : (action : ℕ) (rate : Rate) (rest : List (ℕ × Rate)) → is_eq (nat_cmp action action) ≡ true → rate_in ((action, rate) ∷ rest) action ≡ Rated rate
at_own action rate rest same = ap (λ (b : Bool). apparent_of (cond b (Some rate) (lookup (is_at (nat_cmp action)) rest))) same

pub same_action : (a : ℕ) → is_eq (nat_cmp a a) ≡ true
same_action a = ap is_eq (sym (nat_cmp_is a a Equal refl))

pub below_action : (a b : ℕ) → a < b → is_eq (nat_cmp a b) ≡ false
below_action a b h = ap is_eq (sym (nat_cmp_is a b Less h))

pub above_action : (a b : ℕ) → b < a → is_eq (nat_cmp a b) ≡ false
above_action a b h = ap is_eq (sym (nat_cmp_is a b Greater h))

less_from : (a b : ℕ) → nat_cmp a b ≡ Less → a < b
less_from a b h = of_cases (cases_order a b)
  where
    of_cases : (a ≡ b) ⊎ ((a < b) ⊎ (b < a)) → a < b
    of_cases (inl e) = let is : Equal ≡ nat_cmp a b = nat_cmp_is a b Equal e in absurd cc
    of_cases (inr (inl lt)) = lt
    of_cases (inr (inr gt)) = let is : Greater ≡ nat_cmp a b = nat_cmp_is a b Greater gt in absurd cc

-- no entry for an action below all keys
none_below : (action : ℕ) (rest : List (ℕ × Rate)) → AllByRecursion (λ k. action < k) (map (λ e. e.0) rest) → rate_in rest action ≡ NoRate
none_below action [] h = refl
none_below action ((k, rate) ∷ rest) h = at_other action k rate rest (below_action action k h.0) ∙ none_below action rest h.1

above_head : (k : ℕ) (ks : List ℕ) → AllByRecursion (λ y. nat_cmp k y ≡ Less) ks → AllByRecursion (λ y. k < y) ks
above_head k [] h = tt
above_head k (y ∷ ks) h = (less_from k y h.0, above_head k ks h.1)

above_lesser : (a k : ℕ) (ks : List ℕ) → a < k → AllByRecursion (λ y. k < y) ks → AllByRecursion (λ y. a < y) ks
above_lesser a k [] lt h = tt
above_lesser a k (y ∷ ks) lt h = (omega (arith, h.0), above_lesser a k ks lt h.1)

-- entries in order: those below the head have none, and behind it its action has none
none_before : (a k : ℕ) (rate : Rate) (rest : List (ℕ × Rate)) → a < k → IsStrictlySortedBy nat_cmp (k ∷ map (λ e. e.0) rest) → rate_in ((k, rate) ∷ rest) a ≡ NoRate
none_before a k rate rest lt h =
    none_below a ((k, rate) ∷ rest) (lt, above_lesser a k (map (λ e. e.0) rest) lt (above_head k (map (λ e. e.0) rest) (sorted_head nat_cmp k (map (λ e. e.0) rest) h)))

pub none_behind : (k : ℕ) (rest : List (ℕ × Rate)) → IsStrictlySortedBy nat_cmp (k ∷ map (λ e. e.0) rest) → rate_in rest k ≡ NoRate
none_behind k rest h = none_below k rest (above_head k (map (λ e. e.0) rest) (sorted_head nat_cmp k (map (λ e. e.0) rest) h))

module _ (left right all : List (ℕ × Rate)) (action : ℕ) (rate : Rate) (rest : List (ℕ × Rate)) where
  -- one entry goes over
  pub keeps : (new : List (ℕ × Rate)) → LoopKeeps left right all ((action, rate) ∷ rest) → AddsRate all new action rate → LoopKeeps left right new rest
  keeps new h adds = record {
    total = λ a. total a (cases_order a action);
    fine = λ a. fine a (cases_order a action);
    ascending = sorted_tail nat_cmp action (map (λ e. e.0) rest) h.ascending;
  }
    where
      own_total : together (rate_in new action) (rate_in rest action) ≡ rates_of_choice left right action
      own_total =
          ap (λ (x : Apparent). together (rate_in new action) x) (none_behind action rest h.ascending)
          ∙ together-NoRate (rate_in new action)
          ∙ adds.here
          ∙ ap (λ (x : Apparent). together (rate_in all action) x) (sym (at_own action rate rest (same_action action)))
          ∙ h.total action

      other_total : (a : ℕ) → a ≢ action → is_eq (nat_cmp a action) ≡ false → together (rate_in new a) (rate_in rest a) ≡ rates_of_choice left right a
      other_total a apart differs =
          ap (λ (x : Apparent). together x (rate_in rest a)) (adds.elsewhere a apart)
          ∙ ap (λ (x : Apparent). together (rate_in all a) x) (sym (at_other a action rate rest differs))
          ∙ h.total a

      total : (a : ℕ) → (a ≡ action) ⊎ ((a < action) ⊎ (action < a)) → together (rate_in new a) (rate_in rest a) ≡ rates_of_choice left right a
      total a (inl e) = subst (λ (n : ℕ). together (rate_in new n) (rate_in rest n) ≡ rates_of_choice left right n) (sym e) own_total
      total a (inr (inl lt)) = other_total a (λ e. omega (arith, e)) (below_action a action lt)
      total a (inr (inr gt)) = other_total a (λ e. omega (arith, e)) (above_action a action gt)

      fine : (a : ℕ) → (a ≡ action) ⊎ ((a < action) ⊎ (action < a)) → IsFine (rate_in new a)
      fine a (inl e) = subst (λ (n : ℕ). IsFine (rate_in new n)) (sym e) adds.fine
      fine a (inr (inl lt)) = subst IsFine (sym (adds.elsewhere a (λ e. omega (arith, e)))) (h.fine a)
      fine a (inr (inr gt)) = subst IsFine (sym (adds.elsewhere a (λ e. omega (arith, e)))) (h.fine a)

  -- an entry whose sum has a fault is the least one
  pub least_fault : (fault : RateFault) → LoopKeeps left right all ((action, rate) ∷ rest) → HasFault (together (rate_in all action) (Rated rate)) fault → IsLeastFault (rates_of_choice left right) 0 fault
  least_fault fault h faulty = record {
    action = action;
    counts = omega arith;
    faulty = subst (λ (x : Apparent). HasFault x fault) own faulty;
    least = λ other counts lt. subst IsFine (lesser other lt) (h.fine other);
  }
    where
      own : together (rate_in all action) (Rated rate) ≡ rates_of_choice left right action
      own = ap (λ (x : Apparent). together (rate_in all action) x) (sym (at_own action rate rest (same_action action))) ∙ h.total action

      lesser : (other : ℕ) → other < action → rate_in all other ≡ rates_of_choice left right other
      lesser other lt =
          sym (together-NoRate (rate_in all other))
          ∙ ap (λ (x : Apparent). together (rate_in all other) x) (sym (none_before other action rate rest lt h.ascending))
          ∙ h.total other

  -- the way out of the loop
  pub stops : (new : List (ℕ × Rate)) (end : End RateFault) → LoopKeeps left right all ((action, rate) ∷ rest) → AnswersAddition all new action rate (Err end) → AnswersChoice left right (Err end)
  stops new (Fault fault) h faulty = least_fault fault h faulty
  stops new Memory h faulty = tt
