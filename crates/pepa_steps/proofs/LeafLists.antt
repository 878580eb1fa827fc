-- The moves of an opened sequential component as a state's.
use Rattle.std.proofs.Common.{◌≡◌, List, [], ◌∷◌, map, inl, inr, refl, sym, ap, subst, ◌∙◌}
use Rattle.std.specs.List.{AllZip}
use Rattle.pepa_model.specs.Expression.{Definition}
use Rattle.pepa_model.specs.Derivation.{Derivation, Transition, InDerivationOrder, Among}
use Rattle.pepa_model.specs.Derivation as leaf
use Rattle.pepa_model.specs.Opened.{Opened, Opens, moves}
use Rattle.pepa_model.proofs.OneList as leaves
use Rattle.pepa_model.proofs.TransitionLists as leaf_lists
use Rattle.pepa_steps.specs.States.{AtLeaf, StateTransition}
use Rattle.pepa_steps.specs.OpenStates.{LeafOpen, leaf_move, unopened}
use Rattle.pepa_steps.specs.Rules.{StateDerivation, OfLeaf, StateConcludes}
use Rattle.pepa_steps.proofs.DerivedLists.{Derived, derived, transition_in, Before, Ascends, DerivedMoves}

-- each derivation with its transition
abbrev zipped : List Derivation → List Transition → List Derived
zipped [] ts = []
zipped (d ∷ ds) [] = []
zipped (d ∷ ds) (t ∷ ts) = derived (OfLeaf d) (leaf_move t) ∷ zipped ds ts

module _ (R : Derivation → Transition → Type 0) where
  zipped_moves : (ds : List Derivation) (ts : List Transition) → AllZip R ds ts → map transition_in (zipped ds ts) ≡ map leaf_move ts
  zipped_moves [] [] h = refl
  zipped_moves [] (t ∷ ts) h = absurd h
  zipped_moves (d ∷ ds) [] h = absurd h
  zipped_moves (d ∷ ds) (t ∷ ts) h = ap (λ (l : List StateTransition). leaf_move t ∷ l) (zipped_moves ds ts h.1)

  record IsZipped (p : Derived) (ds : List Derivation) : Type 0 where
    derivation : Derivation
    transition : Transition
    among : Among derivation ds
    related : R derivation transition
    is : p ≡ derived (OfLeaf derivation) (leaf_move transition)

  from_zipped : (p : Derived) (ds : List Derivation) (ts : List Transition) → AllZip R ds ts → Among p (zipped ds ts) → IsZipped p ds
  from_zipped p [] ts h k = absurd k
  from_zipped p (d ∷ ds) [] h k = absurd h
  from_zipped p (d ∷ ds) (t ∷ ts) h (inl is) = record { derivation = d; transition = t; among = inl refl; related = h.0; is = is }
  from_zipped p (d ∷ ds) (t ∷ ts) h (inr k) =
      let z = from_zipped p ds ts h.1 k in
      record { derivation = z.derivation; transition = z.transition; among = inr z.among; related = z.related; is = z.is }

  among_zipped : (d : Derivation) (ds : List Derivation) (ts : List Transition) → AllZip R ds ts → Among d ds → (t : Transition) × R d t × Among (derived (OfLeaf d) (leaf_move t)) (zipped ds ts)
  among_zipped d [] ts h k = absurd k
  among_zipped d (x ∷ ds) [] h k = absurd h
  among_zipped d (x ∷ ds) (t ∷ ts) h (inl same) = (t, subst (λ (x : Derivation). R x t) (sym same) h.0, inl (ap (λ (x : Derivation). derived (OfLeaf x) (leaf_move t)) same))
  among_zipped d (x ∷ ds) (t ∷ ts) h (inr k) =
      let (u, related, among) = among_zipped d ds ts h.1 k in
      (u, related, inr among)

  zipped_ascends : (ds : List Derivation) (ts : List Transition) → AllZip R ds ts → InDerivationOrder ds → Ascends (zipped ds ts)
  zipped_ascends [] ts h k = tt
  zipped_ascends (d ∷ ds) [] h k = absurd h
  zipped_ascends (d ∷ ds) (t ∷ ts) h k = (λ q among. later q (from_zipped q ds ts h.1 among), zipped_ascends ds ts h.1 k.1)
    where
      later : (q : Derived) → IsZipped q ds → Before (derived (OfLeaf d) (leaf_move t)) q
      later q z = subst (λ (q : Derived). Before (derived (OfLeaf d) (leaf_move t)) q) (sym z.is) (leaves.each_among (leaf.Precedes d) z.derivation ds k.0 z.among)

module _ (definitions : List Definition) where
  abbrev LeafConcludes : Opened → Derivation → Transition → Type 0
  LeafConcludes o d t = leaf.Concludes definitions d (unopened o) t

  pub leaf_moves : (o : Opened) → Opens definitions (unopened o) o → DerivedMoves definitions (LeafOpen o)
  leaf_moves o opens = record {
    all = zipped list.derivations (moves o);
    moves_are = zipped_moves (LeafConcludes o) list.derivations (moves o) list.conclusions;
    concluded = λ p among. of_found p (from_zipped (LeafConcludes o) p list.derivations (moves o) list.conclusions among);
    complete = of_conclusion;
    ascends = zipped_ascends (LeafConcludes o) list.derivations (moves o) list.conclusions list.in_order;
  }
    where
      list : leaf.IsComponentTransitionList definitions (unopened o) (moves o)
      list = leaf_lists.transition_list definitions (unopened o) o opens

      of_found : (p : Derived) → IsZipped (LeafConcludes o) p list.derivations → StateConcludes definitions p.derivation (AtLeaf (unopened o)) p.transition
      of_found p z = subst (λ (p : Derived). StateConcludes definitions p.derivation (AtLeaf (unopened o)) p.transition) (sym z.is) (z.transition, z.related, refl)

      of_conclusion : (d : StateDerivation) (t : StateTransition) → StateConcludes definitions d (AtLeaf (unopened o)) t → Among (derived d t) (zipped list.derivations (moves o))
      of_conclusion (OfLeaf d) t (u, h, is) =
          let (v, related, among) = among_zipped (LeafConcludes o) d list.derivations (moves o) list.conclusions (list.complete d u h) in
          let same = leaves.same_conclusion definitions d (unopened o) u v h related in
          subst (λ (t : StateTransition). Among (derived (OfLeaf d) t) (zipped list.derivations (moves o))) (sym (is ∙ ap leaf_move same)) among
      of_conclusion d t h = absurd h
