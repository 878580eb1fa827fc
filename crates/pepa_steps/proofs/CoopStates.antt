-- The rates and steps of cooperations and hidings are those of each state that they stand for.
use Rattle.std.proofs.Common.{◌≡◌, ◌==◌, ℕ, zero, suc, ◌<◌, Bool, true, false, ◌||◌, if◌then◌else◌, List, [], ◌∷◌, map, Some, slice_get}
use Rattle.std.proofs.Common.{refl, sym, ap, subst, ne_eqb, ◌∙◌, arith}
use Rattle.std.specs.List.{AllByRecursion, AllZip}
use Rattle.std.proofs.lemmas.Option.{same_Some}
use Rattle.pepa_model.specs.Apparent.{Apparent, NoRate, together}
use Rattle.pepa_model.specs.PepaModel.{PepaModel}
use Rattle.pepa_model.specs.Terms.{TermNode, CoopNode, HideNode}
use Rattle.pepa_rates.specs.declared.rate.Rate.{Rate}
use Rattle.pepa_steps.specs.Moves.{cooperation, under_hiding}
use Rattle.pepa_steps.specs.Alike.{Alike}
use Rattle.pepa_steps.specs.States.{State, Cooperating, Hiding, has, NodeStandsFor}
use Rattle.pepa_steps.specs.OpenStates.{OpenState, CoopOpen, HideOpen, apparent_in, least_if_both, closed_state, rate_of, moves_in}
use Rattle.pepa_steps.specs.ActionRates.{rate_in}
use Rattle.pepa_steps.specs.StateRates.{rates_of_cooperation, rates_of_hiding}
use Rattle.pepa_steps.specs.Combined.{rate_at}
use Rattle.pepa_steps.specs.PartAnswers.{StepNode, LeadsTo, IsPartOf}
use Rattle.pepa_steps.proofs.Alikes.{cooperation_alike, hidden_alike}
use Rattle.pepa_steps.proofs.StateParts.{Agrees}

-- sets have no `tau`
pub has_no_tau : (types : List ℕ) → AllByRecursion (λ a. 0 < a) types → has types 0 ≡ false
has_no_tau [] h = refl
has_no_tau (a ∷ types) h =
    let differs : (0 == a) ≡ false = ne_eqb 0 a (λ e. omega (arith, e, h.0)) in
    ap (λ (b : Bool). b || has types 0) differs ∙ has_no_tau types h.1

pub has_positive : (types : List ℕ) → AllByRecursion (λ a. 0 < a) types → (action : ℕ) → has types action ≡ true → 0 < action
has_positive types h zero is = let none = has_no_tau types h in absurd cc
has_positive types h (suc n) is = omega arith

-- the set of a state is the one that the program has by its number
pub types_same : (m : PepaModel) (number : ℕ) (types set : List ℕ) → slice_get m.sets number ≡ Some types → slice_get m.sets number ≡ Some set → types ≡ set
types_same m number types set is at = same_Some types set (sym is ∙ at)

-- the steps of a cooperation and of a hiding
abbrev pub coop_steps : List ℕ → ℕ → TermNode → TermNode → List (ℕ × Rate) → List (ℕ × Rate) → List StepNode → List StepNode → List StepNode
coop_steps types number left right l r = cooperation (λ x. CoopNode x right number) (λ y. CoopNode left y number) (λ x y. CoopNode x y number) types (rate_at l) (rate_at r)

abbrev pub hide_steps : List ℕ → ℕ → List StepNode → List StepNode
hide_steps types number us = map (under_hiding (λ x. HideNode x number) types) us

module _ (m : PepaModel) where
  -- ---- cooperations

  module _ (p q : State) (s t : OpenState) (left right : TermNode) (number : ℕ) (types : List ℕ) (l r : List (ℕ × Rate)) (us vs : List StepNode) (of_left : IsPartOf m s l us) (of_right : IsPartOf m t r vs)
      (stands_left : NodeStandsFor m p left) (stands_right : NodeStandsFor m q right) (at : slice_get m.sets number ≡ Some types) where
    cooperation_each : (action : ℕ) → 0 < action → rates_of_cooperation types l r action ≡ apparent_in (CoopOpen s t types) action
    cooperation_each action positive =
        ap (λ (x : Apparent). if has types action then least_if_both x (rate_in r action) else together x (rate_in r action)) (of_left.rates_are.each action positive)
        ∙ ap (λ (x : Apparent). if has types action then least_if_both (apparent_in s action) x else together (apparent_in s action) x) (of_right.rates_are.each action positive)

    cooperation_none : rates_of_cooperation types l r 0 ≡ NoRate
    cooperation_none =
        ap (λ (x : Apparent). if has types 0 then least_if_both x (rate_in r 0) else together x (rate_in r 0)) of_left.rates_are.no_tau
        ∙ ap (λ (x : Apparent). if has types 0 then least_if_both NoRate x else together NoRate x) of_right.rates_are.no_tau
        ∙ of_test (has types 0)
      where
        of_test : (b : Bool) → (if b then least_if_both NoRate NoRate else together NoRate NoRate) ≡ NoRate
        of_test true = refl
        of_test false = refl

    cooperation_moves : AllByRecursion (λ a. 0 < a) types → closed_state s ≡ p → closed_state t ≡ q → AllZip (Alike (LeadsTo m)) (coop_steps types number left right l r us vs) (moves_in (CoopOpen s t types))
    cooperation_moves positive closed_left closed_right =
        let here = subst (λ (x : State). NodeStandsFor m x left) (sym closed_left) stands_left in
        let there = subst (λ (x : State). NodeStandsFor m x right) (sym closed_right) stands_right in
        cooperation_alike (LeadsTo m) (LeadsTo m) (LeadsTo m)
        (λ x. CoopNode x right number) (λ y. CoopNode left y number) (λ x y. CoopNode x y number)
        (λ x. Cooperating x (closed_state t) types) (λ y. Cooperating (closed_state s) y types) (λ x y. Cooperating x y types)
        (λ x x' h. (h, there, at)) (λ y y' h. (here, h, at)) (λ x x' y y' h k. (h, k, at))
        types (rate_at l) (λ a. rate_of (apparent_in s a)) (rate_at r) (λ a. rate_of (apparent_in t a))
        (λ a has_it. ap rate_of (of_left.rates_are.each a (has_positive types positive a has_it)))
        (λ a has_it. ap rate_of (of_right.rates_are.each a (has_positive types positive a has_it)))
        us (moves_in s) vs (moves_in t) of_left.moves of_right.moves

    pub cooperation_agrees : AllByRecursion (λ a. 0 < a) types → closed_state s ≡ p → closed_state t ≡ q
        → Agrees m (rates_of_cooperation types l r) (coop_steps types number left right l r us vs) (CoopOpen s t types)
    cooperation_agrees positive closed_left closed_right = record {
      each = cooperation_each;
      none = cooperation_none;
      moves = cooperation_moves positive closed_left closed_right;
    }

  -- ---- hidings

  module _ (s : OpenState) (number : ℕ) (types : List ℕ) (rates : List (ℕ × Rate)) (us : List StepNode) (of_inner : IsPartOf m s rates us) (at : slice_get m.sets number ≡ Some types) where
    hiding_none : (inner : Apparent) → inner ≡ NoRate → (b : Bool) → (if b then NoRate else inner) ≡ NoRate
    hiding_none inner none true = refl
    hiding_none inner none false = none

    pub hiding_agrees : Agrees m (rates_of_hiding types rates) (hide_steps types number us) (HideOpen s types)
    hiding_agrees = record {
      each = λ action positive. ap (λ (x : Apparent). if has types action then NoRate else x) (of_inner.rates_are.each action positive);
      none = hiding_none (rate_in rates 0) of_inner.rates_are.no_tau (has types 0);
      moves = hidden_alike (LeadsTo m) (LeadsTo m) (λ x. HideNode x number) (λ x. Hiding x types) (λ x x' h. (h, at)) types
          us (moves_in s) of_inner.moves;
    }
