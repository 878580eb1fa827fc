-- A state has one verdict, and none if it has no fault.
use Rattle.std.proofs.Common.{◌≡◌, ℕ, ◌<◌, List, [], ◌∷◌, ◌++◌, ◌⊎◌, inl, inr, refl, sym, ap, subst, ◌∙◌, arith}
use Rattle.std.specs.List.{AllByRecursion}
use Rattle.std.proofs.lemmas.Bool.{cases_order}
use Rattle.pepa_rates.specs.declared.rate.RateFault.{RateFault}
use Rattle.pepa_model.specs.Expression.{Definition}
use Rattle.pepa_model.specs.Apparent.{HasFault}
use Rattle.pepa_model.specs.Verdict.{IsFirstFault}
use Rattle.pepa_model.proofs.OneList.{faulty_not_fine, same_fault}
use Rattle.pepa_steps.specs.States.{State}
use Rattle.pepa_steps.specs.OpenStates.{OpenState, parts_in, apparent_in}
use Rattle.pepa_steps.specs.StateVerdict.{HasFineStateRates, IsFinePart, PartFault, OfRates, OfLength, OfDerivation, HasRateFault, HasPartFault, IsWithoutFault, IsVerdict}
use Rattle.pepa_steps.proofs.OneState.{one_tree}

rates_not_fine : (p : OpenState) (f : RateFault) → HasRateFault p f → HasFineStateRates p → ⊥
rates_not_fine p f h k = faulty_not_fine (apparent_in p h.action) f h.faulty (k h.action h.counts)

pub part_not_fine : (p : OpenState) (f : PartFault) → HasPartFault p f → IsFinePart p → ⊥
part_not_fine p (OfRates f) h k = rates_not_fine p f h k.rates
part_not_fine p OfLength h k = omega (arith, h.1, k.short)
part_not_fine p OfDerivation h k = h.2 k.in_range

same_rate_fault : (p : OpenState) (f g : RateFault) → HasRateFault p f → HasRateFault p g → f ≡ g
same_rate_fault p f g h k = of_cases (cases_order h.action k.action)
  where
    of_cases : (h.action ≡ k.action) ⊎ ((h.action < k.action) ⊎ (k.action < h.action)) → f ≡ g
    of_cases (inl e) = same_fault (apparent_in p h.action) f g h.faulty (subst (λ (n : ℕ). HasFault (apparent_in p n) g) (sym e) k.faulty)
    of_cases (inr (inl lt)) = absurd (faulty_not_fine (apparent_in p h.action) f h.faulty (k.least h.action h.counts lt))
    of_cases (inr (inr gt)) = absurd (faulty_not_fine (apparent_in p k.action) g k.faulty (h.least k.action k.counts gt))

pub same_part_fault : (p : OpenState) (f g : PartFault) → HasPartFault p f → HasPartFault p g → f ≡ g
same_part_fault p (OfRates f) (OfRates g) h k = ap OfRates (same_rate_fault p f g h k)
same_part_fault p (OfRates f) OfLength h k = absurd (rates_not_fine p f h k.0)
same_part_fault p (OfRates f) OfDerivation h k = absurd (rates_not_fine p f h k.0)
same_part_fault p OfLength (OfRates g) h k = absurd (rates_not_fine p g k h.0)
same_part_fault p OfLength OfLength h k = refl
same_part_fault p OfLength OfDerivation h k = absurd (omega (arith, h.1, k.1))
same_part_fault p OfDerivation (OfRates g) h k = absurd (rates_not_fine p g k h.0)
same_part_fault p OfDerivation OfLength h k = absurd (omega (arith, h.1, k.1))
same_part_fault p OfDerivation OfDerivation h k = refl

-- ---- the first fault of a list: one, and none where each part is in order

module _ {P F : Type 0} (Fine : P → Type 0) (Faulty : P → F → Type 0) (apart : (p : P) (f : F) → Faulty p f → Fine p → ⊥) (same : (p : P) (f g : F) → Faulty p f → Faulty p g → f ≡ g) where
  same_first : (b c a d : List P) (p q : P) (f g : F) → b ++ p ∷ a ≡ c ++ q ∷ d → AllByRecursion Fine b → AllByRecursion Fine c → Faulty p f → Faulty q g → f ≡ g
  same_first [] [] a d p q f g is fb fc h k =
      let here : p ≡ q = cc in
      same p f g h (subst (λ (x : P). Faulty x g) (sym here) k)
  same_first [] (y ∷ c) a d p q f g is fb fc h k =
      let here : p ≡ y = cc in
      absurd (apart p f h (subst Fine (sym here) fc.0))
  same_first (x ∷ b) [] a d p q f g is fb fc h k =
      let here : x ≡ q = cc in
      absurd (apart q g k (subst Fine here fb.0))
  same_first (x ∷ b) (y ∷ c) a d p q f g is fb fc h k =
      let rest : b ++ p ∷ a ≡ c ++ q ∷ d = cc in
      same_first b c a d p q f g rest fb.1 fc.1 h k

  not_all_fine : (b a : List P) (p : P) (f : F) → Faulty p f → AllByRecursion Fine (b ++ p ∷ a) → ⊥
  not_all_fine [] a p f h k = apart p f h k.0
  not_all_fine (x ∷ b) a p f h k = not_all_fine b a p f h k.1

  pub one_first_fault : (all : List P) (f g : F) → IsFirstFault Fine Faulty all f → IsFirstFault Fine Faulty all g → f ≡ g
  one_first_fault all f g h k = same_first h.before k.before h.after k.after h.at k.at f g (sym h.whole ∙ k.whole) h.fine k.fine h.faulty k.faulty

  pub fault_or_fine : (all : List P) (f : F) → IsFirstFault Fine Faulty all f → AllByRecursion Fine all → ⊥
  fault_or_fine all f h k = not_all_fine h.before h.after h.at f h.faulty (subst (AllByRecursion Fine) h.whole k)

-- ---- the verdict

pub one_verdict : (definitions : List Definition) (state : State) (f g : PartFault) → IsVerdict definitions state f → IsVerdict definitions state g → f ≡ g
one_verdict definitions state f g (s, opens, h) (t, opens_too, k) =
    let same = one_tree definitions state t s opens_too opens in
    one_first_fault IsFinePart HasPartFault part_not_fine same_part_fault (parts_in s) f g h
    (subst (λ (x : OpenState). IsFirstFault IsFinePart HasPartFault (parts_in x) g) same k)

pub verdict_or_none : (definitions : List Definition) (state : State) (f : PartFault) → IsVerdict definitions state f → ¬ IsWithoutFault definitions state
verdict_or_none definitions state f (s, opens, h) (t, opens_too, k) =
    let same = one_tree definitions state t s opens_too opens in
    fault_or_fine IsFinePart HasPartFault part_not_fine same_part_fault (parts_in s) f h
    (subst (λ (x : OpenState). AllByRecursion IsFinePart (parts_in x)) same k)
