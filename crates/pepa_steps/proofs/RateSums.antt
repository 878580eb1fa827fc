-- Sums of the rates of transitions, over lists that are put together, mapped and filtered.
use Rattle.std.proofs.Common.{◌≡◌, ◌==◌, ℕ, ◌<◌, Bool, true, false, if◌then◌else◌, cond, List, [], ◌∷◌, ◌++◌, map, inl, inr, refl, sym, ap, ◌∙◌, arith}
use Rattle.std.specs.List.{filter}
use Rattle.std.proofs.lemmas.Bool.{eqb-true, ne_eqb}
use Rattle.pepa_rates.specs.Fraction.{IsPositive}
use Rattle.pepa_rates.specs.Sum.{fraction_of}
use Rattle.pepa_rates.specs.declared.rate.Rate.{Rate}
use Rattle.pepa_model.specs.Derivation.{Among}
use Rattle.pepa_model.specs.Apparent.{Apparent, NoRate, Rated, together}
use Rattle.pepa_steps.specs.States.{has, StateTransition}
use Rattle.pepa_steps.specs.OpenStates.{hidden_move}
use Rattle.pepa_steps.specs.SumLaw.{sum_of_rates}
use Rattle.pepa_steps.proofs.ApparentSums.{IsPositiveRate, together-positive, together-assoc}

abbrev pub HasPositive : StateTransition → Type 0
HasPositive u = IsPositive (fraction_of u.rate)

-- each transition has a positive rate
abbrev pub ArePositive : List StateTransition → Type 0
ArePositive us = (u : StateTransition) → Among u us → HasPositive u

pub rest_positive : (u : StateTransition) (us : List StateTransition) → ArePositive (u ∷ us) → ArePositive us
rest_positive u us h v among = h v (inr among)

-- ---- one transition

-- what a transition of action n and rate r adds to the sum of action a
abbrev pub own : ℕ → ℕ → Rate → Apparent
own a n r = if n == a then Rated r else NoRate

pub own-positive : (a n : ℕ) (r : Rate) → IsPositive (fraction_of r) → IsPositiveRate (own a n r)
own-positive a n r h = of_test (n == a)
  where
    of_test : (b : Bool) → IsPositiveRate (if b then Rated r else NoRate)
    of_test true = h
    of_test false = tt

own_along : (a n m : ℕ) (r s : Rate) → n ≡ m → r ≡ s → own a n r ≡ own a m s
own_along a n m r s e f = ap (λ (x : ℕ). own a x r) e ∙ ap (λ (x : Rate). own a m x) f

pub own_other : (a n : ℕ) (r : Rate) → (n == a) ≡ false → own a n r ≡ NoRate
own_other a n r h = ap (λ (b : Bool). if b then Rated r else NoRate) h

pub own_same : (a n : ℕ) (r : Rate) → (n == a) ≡ true → own a n r ≡ Rated r
own_same a n r h = ap (λ (b : Bool). if b then Rated r else NoRate) h

nothing : (b : Bool) → (if b then NoRate else NoRate) ≡ NoRate
nothing true = refl
nothing false = refl

-- ---- lists

module _ (a : ℕ) where
  pub sum-positive : (us : List StateTransition) → ArePositive us → IsPositiveRate (sum_of_rates a us)
  sum-positive [] h = tt
  sum-positive (u ∷ us) h = together-positive (own a u.action u.rate) (sum_of_rates a us) (own-positive a u.action u.rate (h u (inl refl))) (sum-positive us (rest_positive u us h))

  pub sum-append : (us vs : List StateTransition) → ArePositive us → ArePositive vs → sum_of_rates a (us ++ vs) ≡ together (sum_of_rates a us) (sum_of_rates a vs)
  sum-append [] vs h k = refl
  sum-append (u ∷ us) vs h k =
      ap (together (own a u.action u.rate)) (sum-append us vs (rest_positive u us h) k)
      ∙ sym (together-assoc (own a u.action u.rate) (sum_of_rates a us) (sum_of_rates a vs)
      (own-positive a u.action u.rate (h u (inl refl))) (sum-positive us (rest_positive u us h)) (sum-positive vs k))

  -- a function that keeps action and rate
  pub sum-map : (g : StateTransition → StateTransition) → ((u : StateTransition) → (g u).action ≡ u.action) → ((u : StateTransition) → (g u).rate ≡ u.rate)
      → (us : List StateTransition) → sum_of_rates a (map g us) ≡ sum_of_rates a us
  sum-map g same_action same_rate [] = refl
  sum-map g same_action same_rate (u ∷ us) =
      ap (λ (x : Apparent). together x (sum_of_rates a (map g us))) (own_along a (g u).action u.action (g u).rate u.rate (same_action u) (same_rate u))
      ∙ ap (together (own a u.action u.rate)) (sum-map g same_action same_rate us)

  -- a function whose results are of another action
  pub sum-other : (g : StateTransition → StateTransition) (n : ℕ) → ((u : StateTransition) → (g u).action ≡ n) → (n == a) ≡ false
      → (us : List StateTransition) → sum_of_rates a (map g us) ≡ NoRate
  sum-other g n is other [] = refl
  sum-other g n is other (u ∷ us) =
      ap (λ (x : Apparent). together x (sum_of_rates a (map g us))) (ap (λ (x : ℕ). own a x (g u).rate) (is u) ∙ own_other a n (g u).rate other)
      ∙ sum-other g n is other us

  -- ---- a filter by the action

  sum_kept : (b : Bool) (u : StateTransition) (us : List StateTransition)
      → sum_of_rates a (cond b (u ∷ us) us) ≡ together (if b then own a u.action u.rate else NoRate) (sum_of_rates a us)
  sum_kept true u us = refl
  sum_kept false u us = refl

  own_filtered : (test : ℕ → Bool) (n : ℕ) (r : Rate) → (if test n then own a n r else NoRate) ≡ (if test a then own a n r else NoRate)
  own_filtered test n r = of_test (n == a) refl
    where
      of_test : (b : Bool) → (n == a) ≡ b → (if test n then own a n r else NoRate) ≡ (if test a then own a n r else NoRate)
      of_test true same = ap (λ (x : ℕ). if test x then own a n r else NoRate) (eqb-true n a same)
      of_test false other =
          ap (λ (x : Apparent). if test n then x else NoRate) (own_other a n r other) ∙ nothing (test n)
          ∙ sym (ap (λ (x : Apparent). if test a then x else NoRate) (own_other a n r other) ∙ nothing (test a))

  if_together : (b : Bool) (x y : Apparent) → together (if b then x else NoRate) (if b then y else NoRate) ≡ (if b then together x y else NoRate)
  if_together true x y = refl
  if_together false x y = refl

  pub sum-filter : (test : ℕ → Bool) (us : List StateTransition) → sum_of_rates a (filter (λ u. test u.action) us) ≡ (if test a then sum_of_rates a us else NoRate)
  sum-filter test [] = sym (nothing (test a))
  sum-filter test (u ∷ us) =
      let rest : List StateTransition = filter (λ (u : StateTransition). test u.action) us in
      sum_kept (test u.action) u rest
      ∙ ap (λ (x : Apparent). together x (sum_of_rates a rest)) (own_filtered test u.action u.rate)
      ∙ ap (together (if test a then own a u.action u.rate else NoRate)) (sum-filter test us)
      ∙ if_together (test a) (own a u.action u.rate) (sum_of_rates a us)

-- ---- hidings

own_hidden : (a n : ℕ) (r : Rate) (set : List ℕ) → 0 < a → own a (if has set n then 0 else n) r ≡ (if has set a then NoRate else own a n r)
own_hidden a n r set positive = of_test (n == a) refl
  where
    hidden_same : (b : Bool) → (n == a) ≡ true → own a (if b then 0 else n) r ≡ (if b then NoRate else own a n r)
    hidden_same true same = own_other a 0 r (ne_eqb 0 a (λ e. omega arith))
    hidden_same false same = refl

    hidden_other : (b : Bool) → (n == a) ≡ false → own a (if b then 0 else n) r ≡ NoRate
    hidden_other true other = own_other a 0 r (ne_eqb 0 a (λ e. omega arith))
    hidden_other false other = own_other a n r other

    of_test : (b : Bool) → (n == a) ≡ b → own a (if has set n then 0 else n) r ≡ (if has set a then NoRate else own a n r)
    of_test true same = hidden_same (has set n) same ∙ ap (λ (x : ℕ). if has set x then NoRate else own a n r) (eqb-true n a same)
    of_test false other = hidden_other (has set n) other ∙ sym (ap (λ (x : Apparent). if has set a then NoRate else x) (own_other a n r other) ∙ nothing (has set a))

else_together : (b : Bool) (x y : Apparent) → together (if b then NoRate else x) (if b then NoRate else y) ≡ (if b then NoRate else together x y)
else_together true x y = refl
else_together false x y = refl

pub sum-hidden : (a : ℕ) (set : List ℕ) → 0 < a → (us : List StateTransition) → sum_of_rates a (map (hidden_move set) us) ≡ (if has set a then NoRate else sum_of_rates a us)
sum-hidden a set positive [] = sym (nothing (has set a))
sum-hidden a set positive (u ∷ us) =
    ap (λ (x : Apparent). together x (sum_of_rates a (map (hidden_move set) us))) (own_hidden a u.action u.rate set positive)
    ∙ ap (together (if has set a then NoRate else own a u.action u.rate)) (sum-hidden a set positive us)
    ∙ else_together (has set a) (own a u.action u.rate) (sum_of_rates a us)
