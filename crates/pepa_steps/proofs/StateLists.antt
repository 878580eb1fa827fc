-- The moves of an opened state are its transition list.
use Rattle.std.proofs.Common.{◌≡◌, ℕ, zero, suc, ◌<◌, true, false, List, ◌∷◌, [], ◌++◌, map, refl, sym, ap, subst, ◌∙◌, arith}
use Rattle.std.specs.List.{AllByRecursion, AllZip}
use Rattle.pepa_model.specs.Expression.{Expression, Chosen, Definition}
use Rattle.pepa_model.specs.Derivation.{Among}
use Rattle.pepa_model.specs.Opened.{Opened, OpenPrefix, OpenChoice, OpenConst, Opens}
use Rattle.pepa_model.proofs.TransitionLists.{Among-map}
use Rattle.pepa_steps.specs.States.{State, AtLeaf, Cooperating, Hiding, has, StateTransition}
use Rattle.pepa_steps.specs.OpenStates.{OpenState, LeafOpen, CoopOpen, HideOpen, OpensState, parts_in, hidden_move, unopened, closed_state, moves_in}
use Rattle.pepa_steps.specs.Rules.{StateDerivation, Under, StateConcludes, IsTransitionList}
use Rattle.pepa_steps.specs.StateVerdict.{HasFineStateRates}
use Rattle.pepa_steps.proofs.ElementsOf.{from_map, all_of_front, all_of_back, map_square}
use Rattle.pepa_steps.proofs.DerivedLists.{Derived, derived, derivation_in, transition_in, Ascends-map, derivations_ascend, zip_of_all, DerivedMoves}
use Rattle.pepa_steps.proofs.LeafLists.{leaf_moves}
use Rattle.pepa_steps.proofs.CoopLists.{HasRates, coop_moves}
use Rattle.pepa_steps.proofs.RatedMoves.{are_rated}
pub use Rattle.pepa_steps.proofs.RatedMoves.{IsRated, move_rated, contained_rated}

-- no set in the tree has `tau`, whose number is 0
abbrev pub HasNoTau : OpenState → Type 0
HasNoTau (LeafOpen o) = Unit {0}
HasNoTau (CoopOpen s t set) = HasNoTau s × HasNoTau t × (has set 0 ≡ false)
HasNoTau (HideOpen s set) = HasNoTau s × (has set 0 ≡ false)

-- ---- the state that a tree opened from

closed_leaf : (definitions : List Definition) (e : Expression) (o : Opened) → Opens definitions e o → unopened o ≡ e
closed_leaf definitions e (OpenPrefix a r next) is = sym is
closed_leaf definitions e (OpenChoice p q) (x, y, e_is, opens_x, opens_y) =
    ap (λ (z : Expression). Chosen z (unopened q)) (closed_leaf definitions x p opens_x) ∙ ap (λ (z : Expression). Chosen x z) (closed_leaf definitions y q opens_y) ∙ sym e_is
closed_leaf definitions e (OpenConst c p) (e_is, h) = sym e_is

pub closed_is : (definitions : List Definition) (state : State) (tree : OpenState) → OpensState definitions state tree → closed_state tree ≡ state
closed_is definitions (AtLeaf e) (LeafOpen o) h = ap AtLeaf (closed_leaf definitions e o h)
closed_is definitions (Cooperating p q set) (CoopOpen s t other) (opens_s, opens_t, same) =
    ap (λ (x : State). Cooperating x (closed_state t) other) (closed_is definitions p s opens_s)
    ∙ ap (λ (x : State). Cooperating p x other) (closed_is definitions q t opens_t) ∙ ap (λ (l : List ℕ). Cooperating p q l) same
closed_is definitions (Hiding p set) (HideOpen s other) (opens_s, same) =
    ap (λ (x : State). Hiding x other) (closed_is definitions p s opens_s) ∙ ap (λ (l : List ℕ). Hiding p l) same
closed_is definitions state tree h = absurd h

-- ---- hidings

module _ (definitions : List Definition) (s : OpenState) (set : List ℕ) (inner : DerivedMoves definitions s) where
  abbrev under : Derived → Derived
  under u = derived (Under u.derivation) (hidden_move set u.transition)

  hidden_concluded : (p : Derived) → Among p (map under inner.all) → StateConcludes definitions p.derivation (Hiding (closed_state s) set) p.transition
  hidden_concluded p among =
      let (u, found, is) = from_map under p inner.all among in
      subst (λ (p : Derived). StateConcludes definitions p.derivation (Hiding (closed_state s) set) p.transition) (sym is) (u.transition, inner.concluded u found, refl)

  hidden_complete : (d : StateDerivation) (w : StateTransition) → StateConcludes definitions d (Hiding (closed_state s) set) w → Among (derived d w) (map under inner.all)
  hidden_complete (Under d) w (u, h, is) =
      subst (λ (w : StateTransition). Among (derived (Under d) w) (map under inner.all)) (sym is) (Among-map under (derived d u) inner.all (inner.complete d u h))
  hidden_complete d w h = absurd h

  hide_moves : DerivedMoves definitions (HideOpen s set)
  hide_moves = record {
    all = map under inner.all;
    moves_are = map_square transition_in under (hidden_move set) transition_in (λ u. refl) inner.all ∙ ap (map (hidden_move set)) inner.moves_are;
    concluded = hidden_concluded;
    complete = hidden_complete;
    ascends = Ascends-map under (λ p q h. h) inner.all inner.ascends;
  }

-- ---- all states

above_tau : (set : List ℕ) (a : ℕ) → has set 0 ≡ false → has set a ≡ true → 0 < a
above_tau set zero none h = absurd cc
above_tau set (suc a) none h = omega arith

has_rates : (tree : OpenState) (set : List ℕ) → has set 0 ≡ false → AllByRecursion HasFineStateRates (parts_in tree) → HasRates set tree
has_rates tree set none fine u among within =
    let h = are_rated tree fine u among (above_tau set u.action none within) in
    (h.rate, h.rated)

derived_moves : (definitions : List Definition) (tree : OpenState) → OpensState definitions (closed_state tree) tree → HasNoTau tree → AllByRecursion HasFineStateRates (parts_in tree)
    → DerivedMoves definitions tree
derived_moves definitions (LeafOpen o) opens none fine = leaf_moves definitions o opens
derived_moves definitions (CoopOpen s t set) (opens_s, opens_t, same) (none_s, none_t, none) fine =
    let within = all_of_front HasFineStateRates (parts_in s ++ parts_in t) (CoopOpen s t set ∷ []) fine in
    let fine_s = all_of_front HasFineStateRates (parts_in s) (parts_in t) within in
    let fine_t = all_of_back HasFineStateRates (parts_in s) (parts_in t) within in
    coop_moves definitions s t set (derived_moves definitions s opens_s none_s fine_s) (derived_moves definitions t opens_t none_t fine_t)
    opens_s opens_t (has_rates s set none fine_s) (has_rates t set none fine_t)
derived_moves definitions (HideOpen s set) (opens_s, same) (none_s, none) fine =
    hide_moves definitions s set (derived_moves definitions s opens_s none_s (all_of_front HasFineStateRates (parts_in s) (HideOpen s set ∷ []) fine))

pub transition_list : (definitions : List Definition) (state : State) (tree : OpenState) → OpensState definitions state tree → HasNoTau tree → AllByRecursion HasFineStateRates (parts_in tree)
    → IsTransitionList definitions state (moves_in tree)
transition_list definitions state tree opens none fine =
    let same = closed_is definitions state tree opens in
    subst (λ (x : State). IsTransitionList definitions x (moves_in tree)) same
    (of_moves (derived_moves definitions tree (subst (λ (x : State). OpensState definitions x tree) (sym same) opens) none fine))
  where
    of_moves : DerivedMoves definitions tree → IsTransitionList definitions (closed_state tree) (moves_in tree)
    of_moves h = record {
      derivations = map derivation_in h.all;
      conclusions = subst (λ (l : List StateTransition). AllZip (λ d t. StateConcludes definitions d (closed_state tree) t) (map derivation_in h.all) l) h.moves_are
          (zip_of_all (λ d t. StateConcludes definitions d (closed_state tree) t) h.all h.concluded);
      complete = λ d t concluded. Among-map derivation_in (derived d t) h.all (h.complete d t concluded);
      in_order = derivations_ascend h.all h.ascends;
    }
