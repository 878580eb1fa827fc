-- Whether a part of a state has a fault is decided by its apparent rates and its transitions, so each state that opens has a
-- verdict or no fault.
use Rattle.std.proofs.Common.{◌≡◌, ◌==◌, ℕ, zero, suc, ◌+◌, ◌<◌, ◌≤◌, ◌^◌, Bool, true, false, if◌then◌else◌, List, [], ◌∷◌, ◌⊎◌, length, map, inl, inr, refl, sym, ap, subst, ◌∙◌, arith}
use Rattle.std.specs.Prelude.{sum}
use Rattle.std.specs.List.{AllByRecursion}
use Rattle.std.proofs.lemmas.Bool.{cases_order}
use Rattle.std.proofs.lemmas.Bool.Decides.{nat_tests}
use Rattle.pepa_rates.specs.Fraction.{Fraction, InRange}
use Rattle.pepa_rates.specs.Sum.{fraction_of}
use Rattle.pepa_rates.specs.Weights.{common_den, weights_of}
use Rattle.pepa_rates.specs.declared.rate.Rate.{Rate}
use Rattle.pepa_rates.specs.declared.rate.Rate.TheVariants.{Active, Passive}
use Rattle.pepa_rates.specs.declared.rate.RateFault.{RateFault}
use Rattle.pepa_rates.specs.declared.rate.RateFault.TheVariants.{Mixed, Overflow}
use Rattle.pepa_model.specs.Expression.{Definition}
use Rattle.pepa_model.specs.Derivation.{Among}
use Rattle.pepa_model.specs.Opened.{Opened, OpenPrefix, OpenChoice, OpenConst}
use Rattle.pepa_model.specs.Apparent.{Apparent, NoRate, Rated, Undefined, together, apparent_rate, IsFine, HasFault}
use Rattle.pepa_model.specs.Verdict.{IsFirstFault, IsLeastFault}
use Rattle.pepa_steps.specs.States.{State, StateTransition, has}
use Rattle.pepa_steps.specs.OpenStates.{OpenState, LeafOpen, CoopOpen, HideOpen, OpensState, parts_in, least_if_both, apparent_in, moves_in}
use Rattle.pepa_steps.specs.Rules.{IsTransitionList}
use Rattle.pepa_steps.specs.StateVerdict.{IsWithoutFault, HasFineStateRates, AreInRange, IsFinePart, PartFault, OfRates, OfLength, OfDerivation, HasRateFault, HasPartFault}
use Rattle.pepa_steps.specs.WholeVerdict.{IsPassive, HasPassive, rates_of, AreWeighed, OfPassive, OfWeights}
use Rattle.pepa_steps.specs.Existence.{HasVerdictOrNoFault, HasApparentRateOrFault, HasStopOrChoice}

-- ---- numbers and rates

less_or_not : (a b : ℕ) → (a < b) ⊎ ¬ (a < b)
less_or_not a b = of_cases (cases_order a b)
  where
    of_cases : (a ≡ b) ⊎ ((a < b) ⊎ (b < a)) → (a < b) ⊎ ¬ (a < b)
    of_cases (inl same) = inr (λ less. omega (arith, same, less))
    of_cases (inr (inl less)) = inl less
    of_cases (inr (inr more)) = inr (λ less. omega (arith, less, more))

both_or_not : {A B : Type 0} → A ⊎ ¬ A → B ⊎ ¬ B → (A × B) ⊎ ¬ (A × B)
both_or_not (inl a) (inl b) = inl (a, b)
both_or_not (inl a) (inr none) = inr (λ h. none h.1)
both_or_not (inr none) other = inr (λ h. none h.0)

range_or_not : (q : Fraction) → InRange q ⊎ ¬ InRange q
range_or_not q = both_or_not (less_or_not q.num (2 ^ 42)) (less_or_not q.den (2 ^ 42))

-- an apparent rate is in order, or has a fault
fine_or_fault : (x : Apparent) → IsFine x ⊎ ((fault : RateFault) × HasFault x fault)
fine_or_fault NoRate = inl tt
fine_or_fault (Rated r) = of_cases (range_or_not (fraction_of r))
  where
    of_cases : InRange (fraction_of r) ⊎ ¬ InRange (fraction_of r) → IsFine (Rated r) ⊎ ((fault : RateFault) × HasFault (Rated r) fault)
    of_cases (inl h) = inl h
    of_cases (inr h) = inr (Overflow, (refl, h))
fine_or_fault Undefined = inr (Mixed, refl)

-- ---- the first fault of a list of parts

module _ {P F : Type 0} (Fine : P → Type 0) (Faulty : P → F → Type 0) (decide : (p : P) → Fine p ⊎ ((f : F) × Faulty p f)) where
  first_or_none : (all : List P) → ((f : F) × IsFirstFault Fine Faulty all f) ⊎ AllByRecursion Fine all
  first_or_none [] = inr tt
  first_or_none (p ∷ ps) = of_cases (decide p) (first_or_none ps)
    where
      of_cases : Fine p ⊎ ((f : F) × Faulty p f) → ((f : F) × IsFirstFault Fine Faulty ps f) ⊎ AllByRecursion Fine ps
          → ((f : F) × IsFirstFault Fine Faulty (p ∷ ps) f) ⊎ AllByRecursion Fine (p ∷ ps)
      of_cases (inr (f, h)) rest = inl (f, record { before = []; at = p; after = ps; whole = refl; fine = tt; faulty = h })
      of_cases (inl fine) (inl (f, h)) =
          inl (f, record { before = p ∷ h.before; at = h.at; after = h.after; whole = ap (λ l. p ∷ l) h.whole; fine = (fine, h.fine); faulty = h.faulty })
      of_cases (inl fine) (inr rest) = inr (fine, rest)

-- ---- the least action with a fault

-- no action from this number on has a rate
abbrev HasNoneFrom : (ℕ → Apparent) → ℕ → Type 0
HasNoneFrom rates bound = (a : ℕ) → bound ≤ a → rates a ≡ NoRate

other_action : (a b : ℕ) → suc a ≤ b → (a == b) ≡ false
other_action a b above = grind (arith, nat_tests)

opened_bound : (o : Opened) → (bound : ℕ) × HasNoneFrom (apparent_rate o) bound
opened_bound (OpenPrefix a r next) = (suc a, λ b above. ap (λ (test : Bool). if test then Rated r else NoRate) (other_action a b above))
opened_bound (OpenChoice p q) =
    let left = opened_bound p in
    let right = opened_bound q in (
      left.0 + right.0,
      λ a above.
          ap (λ (x : Apparent). together x (apparent_rate q a)) (left.1 a (omega (arith, above))) ∙ right.1 a (omega (arith, above)),
    )
opened_bound (OpenConst c p) = opened_bound p

coop_none : (b : Bool) (x y : Apparent) → x ≡ NoRate → y ≡ NoRate → (if b then least_if_both x y else together x y) ≡ NoRate
coop_none true x y left right = ap (λ (z : Apparent). least_if_both z y) left
coop_none false x y left right = ap (λ (z : Apparent). together z y) left ∙ right

hide_none : (b : Bool) (x : Apparent) → x ≡ NoRate → (if b then NoRate else x) ≡ NoRate
hide_none true x inner = refl
hide_none false x inner = inner

state_bound : (tree : OpenState) → (bound : ℕ) × HasNoneFrom (apparent_in tree) bound
state_bound (LeafOpen o) = opened_bound o
state_bound (CoopOpen s t set) =
    let left = state_bound s in
    let right = state_bound t in
    (left.0 + right.0, λ a above. coop_none (has set a) (apparent_in s a) (apparent_in t a) (left.1 a (omega (arith, above))) (right.1 a (omega (arith, above))))
state_bound (HideOpen s set) =
    let inner = state_bound s in
    (inner.0, λ a above. hide_none (has set a) (apparent_in s a) (inner.1 a above))

module _ (rates : ℕ → Apparent) (first : ℕ) where
  abbrev AreFineBelow : ℕ → Type 0
  AreFineBelow bound = (a : ℕ) → first ≤ a → a < bound → IsFine (rates a)

  fine_next : (bound : ℕ) → AreFineBelow bound → (first ≤ bound → IsFine (rates bound)) → AreFineBelow (suc bound)
  fine_next bound below here a above less = of_cases (cases_order a bound)
    where
      of_cases : (a ≡ bound) ⊎ ((a < bound) ⊎ (bound < a)) → IsFine (rates a)
      of_cases (inl same) = subst (λ (n : ℕ). IsFine (rates n)) (sym same) (here (omega (arith, above, same)))
      of_cases (inr (inl lower)) = below a above lower
      of_cases (inr (inr higher)) = absurd (omega (arith, less, higher))

  least_or_none : (bound : ℕ) → ((fault : RateFault) × IsLeastFault rates first fault) ⊎ AreFineBelow bound
  least_or_none zero = inr (λ a above less. absurd (omega (arith, less)))
  least_or_none (suc bound) = of_cases (least_or_none bound) (fine_or_fault (rates bound)) (less_or_not bound first)
    where
      of_cases : ((fault : RateFault) × IsLeastFault rates first fault) ⊎ AreFineBelow bound → IsFine (rates bound) ⊎ ((fault : RateFault) × HasFault (rates bound) fault)
          → (bound < first) ⊎ ¬ (bound < first) → ((fault : RateFault) × IsLeastFault rates first fault) ⊎ AreFineBelow (suc bound)
      of_cases (inl found) here order = inl found
      of_cases (inr below) (inl fine) order = inr (fine_next bound below (λ reached. fine))
      of_cases (inr below) (inr faulty) (inl less) = inr (fine_next bound below (λ reached. absurd (omega (arith, less, reached))))
      of_cases (inr below) (inr (fault, faulty)) (inr reached) = inl (fault, record { action = bound; counts = omega (arith, reached); faulty = faulty; least = below })

  -- where no action from a bound on has a rate
  fault_or_fine : (bound : ℕ) → HasNoneFrom rates bound → ((fault : RateFault) × IsLeastFault rates first fault) ⊎ ((a : ℕ) → first ≤ a → IsFine (rates a))
  fault_or_fine bound none = of_cases (least_or_none bound)
    where
      of_order : (a : ℕ) → AreFineBelow bound → first ≤ a → (a < bound) ⊎ ¬ (a < bound) → IsFine (rates a)
      of_order a below above (inl less) = below a above less
      of_order a below above (inr more) = subst IsFine (sym (none a (omega (arith, more)))) tt

      of_cases : ((fault : RateFault) × IsLeastFault rates first fault) ⊎ AreFineBelow bound → ((fault : RateFault) × IsLeastFault rates first fault) ⊎ ((a : ℕ) → first ≤ a → IsFine (rates a))
      of_cases (inl found) = inl found
      of_cases (inr below) = inr (λ a above. of_order a below above (less_or_not a bound))

-- ---- the parts of a state

rates_or_fault : (part : OpenState) → ((fault : RateFault) × HasRateFault part fault) ⊎ HasFineStateRates part
rates_or_fault part =
    let bound = state_bound part in
    fault_or_fine (apparent_in part) 1 bound.0 bound.1

moves_in_range_or_not : (transitions : List StateTransition) → AreInRange transitions ⊎ ¬ AreInRange transitions
moves_in_range_or_not [] = inl tt
moves_in_range_or_not (t ∷ ts) = both_or_not (range_or_not (fraction_of t.rate)) (moves_in_range_or_not ts)

-- a part of a state is in order, or has a fault
part_or_fault : (part : OpenState) → IsFinePart part ⊎ ((fault : PartFault) × HasPartFault part fault)
part_or_fault part = of_cases (rates_or_fault part) (less_or_not 65535 (length (moves_in part))) (moves_in_range_or_not (moves_in part))
  where
    of_cases : ((fault : RateFault) × HasRateFault part fault) ⊎ HasFineStateRates part → (65535 < length (moves_in part)) ⊎ ¬ (65535 < length (moves_in part))
        → AreInRange (moves_in part) ⊎ ¬ AreInRange (moves_in part) → IsFinePart part ⊎ ((fault : PartFault) × HasPartFault part fault)
    of_cases (inl (fault, faulty)) count range = inr (OfRates fault, faulty)
    of_cases (inr rates) (inl many) range = inr (OfLength, (rates, many))
    of_cases (inr rates) (inr few) (inl range) = inl (record { rates = rates; short = omega (arith, few); in_range = range })
    of_cases (inr rates) (inr few) (inr beyond) = inr (OfDerivation, (rates, omega (arith, few), beyond))

-- ---- each state that opens

module _ (definitions : List Definition) (state : State) (tree : OpenState) (opens : OpensState definitions state tree) where
  pub verdict_or_none : HasVerdictOrNoFault definitions state
  verdict_or_none = of_cases (first_or_none IsFinePart HasPartFault part_or_fault (parts_in tree))
    where
      of_cases : ((fault : PartFault) × IsFirstFault IsFinePart HasPartFault (parts_in tree) fault) ⊎ AllByRecursion IsFinePart (parts_in tree) → HasVerdictOrNoFault definitions state
      of_cases (inl (fault, first)) = inl (fault, (tree, opens, first))
      of_cases (inr fine) = inr (tree, opens, fine)

  pub rate_or_fault : (action : ℕ) → HasApparentRateOrFault definitions state action
  rate_or_fault action =
      of_cases (first_or_none (λ part. IsFine (apparent_in part action)) (λ part f. HasFault (apparent_in part action) f) (λ part. fine_or_fault (apparent_in part action)) (parts_in tree))
    where
      of_cases : ((fault : RateFault) × IsFirstFault (λ part. IsFine (apparent_in part action)) (λ part f. HasFault (apparent_in part action) f) (parts_in tree) fault)
          ⊎ AllByRecursion (λ part. IsFine (apparent_in part action)) (parts_in tree) → HasApparentRateOrFault definitions state action
      of_cases (inl (fault, first)) = inr (fault, (tree, opens, first))
      of_cases (inr fine) = inl (apparent_in tree action, (tree, opens, fine, refl))

-- ---- the transitions of a state together

passive_rate : (rate : Rate) → IsPassive rate ⊎ ¬ IsPassive rate
passive_rate (Active q) = inr (λ h. h)
passive_rate (Passive q) = inl tt

passive_or_not : (rates : List Rate) → HasPassive rates ⊎ ¬ HasPassive rates
passive_or_not [] = inr (λ h. h.1)
passive_or_not (r ∷ rs) = of_cases (passive_rate r) (passive_or_not rs)
  where
    never : ¬ IsPassive r → ¬ HasPassive rs → (rate : Rate) → (rate ≡ r) ⊎ Among rate rs → IsPassive rate → ⊥
    never first rest rate (inl same) h = first (subst IsPassive same h)
    never first rest rate (inr later) h = rest (rate, later, h)

    of_cases : IsPassive r ⊎ ¬ IsPassive r → HasPassive rs ⊎ ¬ HasPassive rs → HasPassive (r ∷ rs) ⊎ ¬ HasPassive (r ∷ rs)
    of_cases (inl here) rest = inl (r, inl refl, here)
    of_cases (inr first) (inl (rate, later, h)) = inl (rate, inr later, h)
    of_cases (inr first) (inr rest) = inr (λ h. never first rest h.0 h.1 h.2)

weighed_or_not : (rates : List Rate) → AreWeighed rates ⊎ ¬ AreWeighed rates
weighed_or_not rates =
    let fractions : List Fraction = map fraction_of rates in
    both_or_not (less_or_not (common_den fractions) (2 ^ 62)) (less_or_not (sum (weights_of fractions)) (2 ^ 62))

module _ (definitions : List Definition) (state : State) (fine : IsWithoutFault definitions state) (transitions : List StateTransition) (listed : IsTransitionList definitions state transitions) where
  pub stop_or_choice : HasStopOrChoice definitions state
  stop_or_choice = of_cases (passive_or_not (rates_of transitions)) (weighed_or_not (rates_of transitions))
    where
      of_cases : HasPassive (rates_of transitions) ⊎ ¬ HasPassive (rates_of transitions) → AreWeighed (rates_of transitions) ⊎ ¬ AreWeighed (rates_of transitions) → HasStopOrChoice definitions state
      of_cases (inl passive) weights = inl (OfPassive, (fine, (transitions, listed, passive)))
      of_cases (inr active) (inl weighed) = inr (fine, (transitions, listed, active, weighed))
      of_cases (inr active) (inr unweighed) = inl (OfWeights, (fine, (transitions, listed, active, unweighed)))
