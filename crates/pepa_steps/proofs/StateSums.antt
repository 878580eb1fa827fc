-- The rates of the transitions of a state add up to its apparent rates.
use Rattle.std.proofs.Common.{◌≡◌, ◌==◌, ℕ, ◌<◌, Bool, true, false, not, if◌then◌else◌, List, [], ◌∷◌, ◌++◌, ◌⊎◌, map, inl, inr, sym, ap, subst, ◌∙◌, refl}
use Rattle.std.specs.List.{AllByRecursion, filter, flat_map}
use Rattle.std.proofs.lemmas.List.{map-append}
use Rattle.pepa_rates.specs.Fraction.{IsPositive}
use Rattle.pepa_rates.specs.Sum.{fraction_of}
use Rattle.pepa_rates.specs.declared.rate.Rate.{Rate}
use Rattle.pepa_model.specs.Expression.{Definition}
use Rattle.pepa_model.specs.Derivation.{Among, Transition}
use Rattle.pepa_model.specs.Opened.{Opened, OpenPrefix, OpenChoice, OpenConst, moves}
use Rattle.pepa_model.specs.Apparent.{Apparent, NoRate, Rated, together, apparent_rate}
use Rattle.pepa_model.specs.PepaModel.{PepaModel, IsModel}
use Rattle.pepa_model.specs.Terms.{term_of}
use Rattle.pepa_model.specs.declared.term.Term.{Term}
use Rattle.pepa_steps.specs.States.{State, StateTransition, has, StandsFor}
use Rattle.pepa_steps.specs.OpenStates.{OpenState, LeafOpen, CoopOpen, HideOpen, OpensState, parts_in, least_if_both, apparent_in, closed_state, rate_of}
use Rattle.pepa_steps.specs.OpenStates.{leaf_move, left_move, right_move, joint_move, hidden_move, moves_in}
use Rattle.pepa_steps.specs.Rules.{IsTransitionList}
use Rattle.pepa_steps.specs.StateVerdict.{HasFineStateRates, IsFinePart, IsWithoutFault, IsApparentRate}
use Rattle.pepa_steps.specs.SumLaw.{sum_of_rates}
use Rattle.pepa_steps.proofs.ProperRates.{HasProperPrefixes, HasProperRates, proper_state}
use Rattle.pepa_steps.proofs.ElementsOf.{from_append, from_map, from_filter, all_of_front, all_of_back}
use Rattle.pepa_steps.proofs.NodeLists.{all_same}
use Rattle.pepa_steps.proofs.OneState.{one_list, one_tree}
use Rattle.pepa_steps.proofs.StateLists.{HasNoTau, transition_list}
use Rattle.pepa_steps.proofs.WithoutTau.{state_without_tau}
use Rattle.pepa_steps.proofs.StateOpens.{state_from_parts}
use Rattle.pepa_steps.proofs.ApparentSums.{IsDefined, IsLowestRate, IsProperRate, lowest_positive, proper_defined, fine_proper, rate_of-positive}
use Rattle.pepa_steps.proofs.ApparentSums.{together-lowest, together-none, least_if_both-lowest, in_all, both_sides}
use Rattle.pepa_steps.proofs.RateSums.{HasPositive, ArePositive, sum-append, sum-map, sum-filter, sum-hidden}
use Rattle.pepa_steps.proofs.JointSums.{joints-positive, sum-joints}

-- ---- apparent rates are in lowest terms

lowest_if : (b : Bool) (x y : Apparent) → IsLowestRate x → IsLowestRate y → IsLowestRate (if b then x else y)
lowest_if true x y h k = h
lowest_if false x y h k = k

lowest_leaf : (o : Opened) → HasProperPrefixes o → (a : ℕ) → IsLowestRate (apparent_rate o a)
lowest_leaf (OpenPrefix n r next) h a = lowest_if (n == a) (Rated r) NoRate ((h.positive, h.over_positive), h.lowest) tt
lowest_leaf (OpenChoice p q) h a = together-lowest (apparent_rate p a) (apparent_rate q a) (lowest_leaf p h.0 a) (lowest_leaf q h.1 a)
lowest_leaf (OpenConst c p) h a = lowest_leaf p h a

lowest_in : (tree : OpenState) → HasProperRates tree → (a : ℕ) → IsLowestRate (apparent_in tree a)
lowest_in (LeafOpen o) h a = lowest_leaf o h a
lowest_in (CoopOpen s t set) h a =
    let x : Apparent = apparent_in s a in
    let y : Apparent = apparent_in t a in
    lowest_if (has set a) (least_if_both x y) (together x y) (least_if_both-lowest x y (lowest_in s h.0 a) (lowest_in t h.1 a)) (together-lowest x y (lowest_in s h.0 a) (lowest_in t h.1 a))
lowest_in (HideOpen s set) h a = lowest_if (has set a) NoRate (apparent_in s a) tt (lowest_in s h a)

-- the apparent rate, or what stands for it
abbrev rate_in : OpenState → ℕ → Rate
rate_in tree a = rate_of (apparent_in tree a)

rate_positive : (tree : OpenState) → HasProperRates tree → (a : ℕ) → IsPositive (fraction_of (rate_in tree a))
rate_positive tree h a = rate_of-positive (apparent_in tree a) (lowest_positive (apparent_in tree a) (lowest_in tree h a))

-- ---- the rates of transitions are positive

append_positive : (us vs : List StateTransition) → ArePositive us → ArePositive vs → ArePositive (us ++ vs)
append_positive us vs h k w among = of_side (from_append w us vs among)
  where
    of_side : Among w us ⊎ Among w vs → HasPositive w
    of_side (inl found) = h w found
    of_side (inr found) = k w found

map_positive : (g : StateTransition → StateTransition) → ((u : StateTransition) → (g u).rate ≡ u.rate) → (us : List StateTransition) → ArePositive us → ArePositive (map g us)
map_positive g same us h w among =
    let (u, found, is) = from_map g w us among in
    subst HasPositive (sym is) (subst (λ (r : Rate). IsPositive (fraction_of r)) (sym (same u)) (h u found))

filter_positive : (test : StateTransition → Bool) (us : List StateTransition) → ArePositive us → ArePositive (filter test us)
filter_positive test us h w among = h w (from_filter test w us among).0

leaf_positive : (o : Opened) → HasProperPrefixes o → (t : Transition) → Among t (moves o) → IsPositive (fraction_of t.rate)
leaf_positive (OpenPrefix n r next) h t (inl is) = subst (λ (t : Transition). IsPositive (fraction_of t.rate)) (sym is) (h.positive, h.over_positive)
leaf_positive (OpenPrefix n r next) h t (inr none) = absurd none
leaf_positive (OpenChoice p q) h t among = of_side (from_append t (moves p) (moves q) among) (leaf_positive p h.0 t) (leaf_positive q h.1 t)
  where
    of_side : Among t (moves p) ⊎ Among t (moves q) → (Among t (moves p) → IsPositive (fraction_of t.rate)) → (Among t (moves q) → IsPositive (fraction_of t.rate)) → IsPositive (fraction_of t.rate)
    of_side (inl found) left right = left found
    of_side (inr found) left right = right found
leaf_positive (OpenConst c p) h t among = leaf_positive p h t among

leaf_moves_positive : (o : Opened) → HasProperPrefixes o → ArePositive (map leaf_move (moves o))
leaf_moves_positive o h w among =
    let (t, found, is) = from_map leaf_move w (moves o) among in
    subst HasPositive (sym is) (leaf_positive o h t found)

-- ---- leaves

sum_of_leaf : (a : ℕ) (o : Opened) → HasProperPrefixes o → sum_of_rates a (map leaf_move (moves o)) ≡ apparent_rate o a
sum_of_leaf a (OpenPrefix n r next) h = together-none (if n == a then Rated r else NoRate)
sum_of_leaf a (OpenChoice p q) h =
    ap (sum_of_rates a) (map-append leaf_move (moves p) (moves q))
    ∙ sum-append a (map leaf_move (moves p)) (map leaf_move (moves q)) (leaf_moves_positive p h.0) (leaf_moves_positive q h.1)
    ∙ ap (λ (x : Apparent). together x (sum_of_rates a (map leaf_move (moves q)))) (sum_of_leaf a p h.0)
    ∙ ap (together (apparent_rate p a)) (sum_of_leaf a q h.1)
sum_of_leaf a (OpenConst c p) h = sum_of_leaf a p h

-- ---- cooperations

defined_if : (b : Bool) (x : Apparent) → IsDefined x → IsDefined (if b then x else NoRate)
defined_if true x h = h
defined_if false x h = tt

module _ (s t : OpenState) (set : List ℕ) (proper_s : HasProperRates s) (proper_t : HasProperRates t) (h : ArePositive (moves_in s)) (k : ArePositive (moves_in t)) where
  abbrev lefts : List StateTransition
  lefts = map (left_move (closed_state t) set) (filter (λ u. not (has set u.action)) (moves_in s))

  abbrev rights : List StateTransition
  rights = map (right_move (closed_state s) set) (filter (λ v. not (has set v.action)) (moves_in t))

  abbrev joined : List StateTransition
  joined = filter (λ u. has set u.action) (moves_in s)

  abbrev joints : List StateTransition
  joints = flat_map (λ u. map (joint_move set (rate_in s u.action) (rate_in t u.action) u) (filter (λ v. u.action == v.action) (moves_in t))) joined

  lefts_positive : ArePositive lefts
  lefts_positive = map_positive (left_move (closed_state t) set) (λ u. refl) (filter (λ u. not (has set u.action)) (moves_in s)) (filter_positive (λ u. not (has set u.action)) (moves_in s) h)

  rights_positive : ArePositive rights
  rights_positive = map_positive (right_move (closed_state s) set) (λ v. refl) (filter (λ v. not (has set v.action)) (moves_in t)) (filter_positive (λ v. not (has set v.action)) (moves_in t) k)

  joined_positive : ArePositive joined
  joined_positive = filter_positive (λ u. has set u.action) (moves_in s) h

  joints_positive : ArePositive joints
  joints_positive = joints-positive set (rate_in s) (rate_in t) (rate_positive s proper_s) (rate_positive t proper_t) (moves_in t) k joined joined_positive

  cooperation_positive : ArePositive ((lefts ++ rights) ++ joints)
  cooperation_positive = append_positive (lefts ++ rights) joints (append_positive lefts rights lefts_positive rights_positive) joints_positive

  module _ (a : ℕ) (left_proper : IsProperRate (apparent_in s a)) (right_proper : IsProperRate (apparent_in t a))
      (left_is : sum_of_rates a (moves_in s) ≡ apparent_in s a) (right_is : sum_of_rates a (moves_in t) ≡ apparent_in t a) where
    abbrev x : Apparent
    x = apparent_in s a

    abbrev y : Apparent
    y = apparent_in t a

    right_defined : IsDefined (sum_of_rates a (moves_in t))
    right_defined = subst IsDefined (sym right_is) (proper_defined y right_proper)

    sum_of_lefts : sum_of_rates a lefts ≡ (if not (has set a) then x else NoRate)
    sum_of_lefts =
        sum-map a (left_move (closed_state t) set) (λ u. refl) (λ u. refl) (filter (λ u. not (has set u.action)) (moves_in s))
        ∙ sum-filter a (λ n. not (has set n)) (moves_in s)
        ∙ ap (λ (z : Apparent). if not (has set a) then z else NoRate) left_is

    sum_of_rights : sum_of_rates a rights ≡ (if not (has set a) then y else NoRate)
    sum_of_rights =
        sum-map a (right_move (closed_state s) set) (λ v. refl) (λ v. refl) (filter (λ v. not (has set v.action)) (moves_in t))
        ∙ sum-filter a (λ n. not (has set n)) (moves_in t)
        ∙ ap (λ (z : Apparent). if not (has set a) then z else NoRate) right_is

    sum_of_joined : sum_of_rates a joined ≡ (if has set a then x else NoRate)
    sum_of_joined = sum-filter a (has set) (moves_in s) ∙ ap (λ (z : Apparent). if has set a then z else NoRate) left_is

    sum_of_joints : sum_of_rates a joints ≡ in_all (rate_of x) y (if has set a then x else NoRate)
    sum_of_joints =
        sum-joints set a (rate_in s) (rate_in t) (rate_positive s proper_s) (rate_positive t proper_t) (moves_in t) k right_defined (ap rate_of (sym right_is))
        joined joined_positive (subst IsDefined (sym sum_of_joined) (defined_if (has set a) x (proper_defined x left_proper)))
        ∙ ap (λ (z : Apparent). in_all (rate_of x) z (sum_of_rates a joined)) right_is
        ∙ ap (in_all (rate_of x) y) sum_of_joined

    sum_of_cooperation : sum_of_rates a ((lefts ++ rights) ++ joints) ≡ (if has set a then least_if_both x y else together x y)
    sum_of_cooperation =
        sum-append a (lefts ++ rights) joints (append_positive lefts rights lefts_positive rights_positive) joints_positive
        ∙ ap (λ (z : Apparent). together z (sum_of_rates a joints)) (sum-append a lefts rights lefts_positive rights_positive)
        ∙ ap (λ (z : Apparent). together (together z (sum_of_rates a rights)) (sum_of_rates a joints)) sum_of_lefts
        ∙ ap (λ (z : Apparent). together (together (if not (has set a) then x else NoRate) z) (sum_of_rates a joints)) sum_of_rights
        ∙ ap (together (together (if not (has set a) then x else NoRate) (if not (has set a) then y else NoRate))) sum_of_joints
        ∙ both_sides (has set a) x y left_proper right_proper

-- ---- all states

moves_positive : (tree : OpenState) → HasProperRates tree → ArePositive (moves_in tree)
moves_positive (LeafOpen o) h = leaf_moves_positive o h
moves_positive (CoopOpen s t set) h = cooperation_positive s t set h.0 h.1 (moves_positive s h.0) (moves_positive t h.1)
moves_positive (HideOpen s set) h = map_positive (hidden_move set) (λ u. refl) (moves_in s) (moves_positive s h)

module _ (a : ℕ) (positive : 0 < a) where
  proper_rate : (tree : OpenState) → HasProperRates tree → AllByRecursion HasFineStateRates (parts_in tree) → IsProperRate (apparent_in tree a)
  proper_rate tree h fine = fine_proper (apparent_in tree a) (state_from_parts HasFineStateRates tree fine a positive) (lowest_in tree h a)

  sum_of_moves : (tree : OpenState) → HasProperRates tree → AllByRecursion HasFineStateRates (parts_in tree) → sum_of_rates a (moves_in tree) ≡ apparent_in tree a
  sum_of_moves (LeafOpen o) h fine = sum_of_leaf a o h
  sum_of_moves (CoopOpen s t set) h fine =
      let within = all_of_front HasFineStateRates (parts_in s ++ parts_in t) (CoopOpen s t set ∷ []) fine in
      let fine_s = all_of_front HasFineStateRates (parts_in s) (parts_in t) within in
      let fine_t = all_of_back HasFineStateRates (parts_in s) (parts_in t) within in
      sum_of_cooperation s t set h.0 h.1 (moves_positive s h.0) (moves_positive t h.1) a (proper_rate s h.0 fine_s) (proper_rate t h.1 fine_t)
      (sum_of_moves s h.0 fine_s) (sum_of_moves t h.1 fine_t)
  sum_of_moves (HideOpen s set) h fine =
      sum-hidden a set positive (moves_in s)
      ∙ ap (λ (x : Apparent). if has set a then NoRate else x) (sum_of_moves s h (all_of_front HasFineStateRates (parts_in s) (HideOpen s set ∷ []) fine))

pub sum_of_list : (definitions : List Definition) (state : State) (tree : OpenState) (ts : List StateTransition) (action : ℕ) → 0 < action → OpensState definitions state tree
    → HasNoTau tree → AllByRecursion IsFinePart (parts_in tree) → HasProperRates tree → IsTransitionList definitions state ts → sum_of_rates action ts ≡ apparent_in tree action
sum_of_list definitions state tree ts action positive opens none fine proper list =
    let rates = all_same IsFinePart HasFineStateRates (λ part fine. fine.rates) (parts_in tree) fine in
    let same = one_list definitions state ts (moves_in tree) list (transition_list definitions state tree opens none rates) in
    ap (sum_of_rates action) same ∙ sum_of_moves action positive tree proper rates

pub sums_of_rates : (m : PepaModel) (state : State) (term : Term) (ts : List StateTransition) (action : ℕ) (rate : Apparent) → IsModel m → StandsFor m state term → IsWithoutFault m.bodies state
    → IsTransitionList m.bodies state ts → 0 < action → IsApparentRate m.bodies state action rate → sum_of_rates action ts ≡ rate
sums_of_rates m state term ts action rate sound stands (tree, opens, fine) list positive (other, opens_too, fine_too, is) =
    let same = one_tree m.bodies state tree other opens opens_too in
    sum_of_list m.bodies state tree ts action positive opens (state_without_tau m sound state (term_of term) tree stands opens) fine (proper_state m sound state (term_of term) tree stands opens) list
    ∙ ap (λ (x : OpenState). apparent_in x action) same ∙ is
