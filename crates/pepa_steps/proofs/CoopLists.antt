-- The moves of an opened cooperation, from those of its sides.
use Rattle.std.proofs.Common.{◌≡◌, ◌==◌, ℕ, Bool, true, false, not, List, ◌++◌, ◌⊎◌, map, inl, inr, refl, sym, ap, subst, ◌∙◌}
use Rattle.std.specs.List.{filter, flat_map}
use Rattle.std.proofs.lemmas.Bool.{not-true, not_from_false, eqb-true, eq-eqb}
use Rattle.std.proofs.lemmas.List.{map-append}
use Rattle.pepa_rates.specs.declared.rate.Rate.{Rate}
use Rattle.pepa_model.specs.Expression.{Definition}
use Rattle.pepa_model.specs.Derivation.{Among}
use Rattle.pepa_model.specs.Apparent.{Apparent, NoRate, Rated, Undefined}
use Rattle.pepa_model.proofs.TransitionLists.{Among-front, Among-back, Among-map}
use Rattle.pepa_steps.specs.States.{State, Cooperating, has, StateTransition}
use Rattle.pepa_steps.specs.OpenStates.{OpenState, CoopOpen, OpensState, apparent_in, left_move, right_move, joint_move, closed_state, rate_of, moves_in}
use Rattle.pepa_steps.specs.Rules.{StateDerivation, OnLeft, OnRight, OnBoth, HasApparent, StateConcludes, StatePrecedes}
use Rattle.pepa_steps.proofs.ElementsOf.{from_append, from_map, from_filter, from_flat_map, Among-filter, Among-flat_map, map_square, map_filter, map_flat_map}
use Rattle.pepa_steps.proofs.DerivedLists.{Derived, derived, transition_in, Before, Ascends, Ascends-append, Ascends-map, Ascends-filter, Ascends-flat_map, DerivedMoves}
use Rattle.pepa_steps.proofs.OneState.{one_tree}

-- the state has an apparent rate of each of these transitions by a type in the set
abbrev pub HasRates : List ℕ → OpenState → Type 0
HasRates set tree = (u : StateTransition) → Among u (moves_in tree) → has set u.action ≡ true → (r : Rate) × (apparent_in tree u.action ≡ Rated r)

rate_is : (x : Apparent) (r : Rate) → x ≡ Rated r → x ≡ Rated (rate_of x)
rate_is (Rated s) r h = refl
rate_is NoRate r h = absurd cc
rate_is Undefined r h = absurd cc

precedes_so : (d e d' e' : StateDerivation) → d ≡ d' → e ≡ e' → StatePrecedes d' e' → StatePrecedes d e
precedes_so d e d' e' d_is e_is h = subst (λ (x : StateDerivation). StatePrecedes x e) (sym d_is) (subst (λ (x : StateDerivation). StatePrecedes d' x) (sym e_is) h)

module _ (definitions : List Definition) (s t : OpenState) (set : List ℕ) (left : DerivedMoves definitions s) (right : DerivedMoves definitions t) where
  abbrev whole : State
  whole = Cooperating (closed_state s) (closed_state t) set

  abbrev inside : StateTransition → Bool
  inside u = has set u.action

  abbrev outside : StateTransition → Bool
  outside u = not (has set u.action)

  abbrev left_of : Derived → Derived
  left_of u = derived (OnLeft u.derivation) (left_move (closed_state t) set u.transition)

  abbrev right_of : Derived → Derived
  right_of v = derived (OnRight v.derivation) (right_move (closed_state s) set v.transition)

  -- both together, at their share of the apparent rates
  abbrev joint : StateTransition → StateTransition → StateTransition
  joint u v = joint_move set (rate_of (apparent_in s u.action)) (rate_of (apparent_in t u.action)) u v

  abbrev both_of : Derived → Derived → Derived
  both_of u v = derived (OnBoth u.derivation v.derivation) (joint u.transition v.transition)

  abbrev lefts : List Derived
  lefts = map left_of (filter (λ u. outside u.transition) left.all)

  abbrev rights : List Derived
  rights = map right_of (filter (λ v. outside v.transition) right.all)

  abbrev joint_to : Derived → List Derived
  joint_to u = map (both_of u) (filter (λ v. u.transition.action == v.transition.action) right.all)

  abbrev joints : List Derived
  joints = flat_map joint_to (filter (λ u. inside u.transition) left.all)

  abbrev all : List Derived
  all = (lefts ++ rights) ++ joints

  -- ---- their transitions

  lefts_are : map transition_in lefts ≡ map (left_move (closed_state t) set) (filter outside (moves_in s))
  lefts_are =
      map_square transition_in left_of (left_move (closed_state t) set) transition_in (λ u. refl) (filter (λ u. outside u.transition) left.all)
      ∙ ap (map (left_move (closed_state t) set)) (map_filter transition_in outside left.all ∙ ap (filter outside) left.moves_are)

  rights_are : map transition_in rights ≡ map (right_move (closed_state s) set) (filter outside (moves_in t))
  rights_are =
      map_square transition_in right_of (right_move (closed_state s) set) transition_in (λ v. refl) (filter (λ v. outside v.transition) right.all)
      ∙ ap (map (right_move (closed_state s) set)) (map_filter transition_in outside right.all ∙ ap (filter outside) right.moves_are)

  abbrev joint_moves_to : StateTransition → List StateTransition
  joint_moves_to u = map (joint u) (filter (λ v. u.action == v.action) (moves_in t))

  partners_are : (a : ℕ) → map transition_in (filter (λ v. a == v.transition.action) right.all) ≡ filter (λ v. a == v.action) (moves_in t)
  partners_are a = map_filter transition_in (λ (v : StateTransition). a == v.action) right.all ∙ ap (filter (λ (v : StateTransition). a == v.action)) right.moves_are

  joint_to_are : (u : Derived) → map transition_in (joint_to u) ≡ joint_moves_to u.transition
  joint_to_are u =
      map_square transition_in (both_of u) (joint u.transition) transition_in (λ v. refl) (filter (λ v. u.transition.action == v.transition.action) right.all)
      ∙ ap (map (joint u.transition)) (partners_are u.transition.action)

  joints_are : map transition_in joints ≡ flat_map joint_moves_to (filter inside (moves_in s))
  joints_are =
      map_flat_map transition_in transition_in joint_to joint_moves_to joint_to_are (filter (λ u. inside u.transition) left.all)
      ∙ ap (flat_map joint_moves_to) (map_filter transition_in inside left.all ∙ ap (filter inside) left.moves_are)

  append_are : (xs ys : List Derived) (us vs : List StateTransition) → map transition_in xs ≡ us → map transition_in ys ≡ vs → map transition_in (xs ++ ys) ≡ us ++ vs
  append_are xs ys us vs h k = map-append transition_in xs ys ∙ ap (λ (l : List StateTransition). l ++ map transition_in ys) h ∙ ap (λ (l : List StateTransition). us ++ l) k

  abbrev left_moves : List StateTransition
  left_moves = map (left_move (closed_state t) set) (filter outside (moves_in s))

  abbrev right_moves : List StateTransition
  right_moves = map (right_move (closed_state s) set) (filter outside (moves_in t))

  all_are : map transition_in all ≡ moves_in (CoopOpen s t set)
  all_are =
      append_are (lefts ++ rights) joints (left_moves ++ right_moves) (flat_map joint_moves_to (filter inside (moves_in s)))
      (append_are lefts rights left_moves right_moves lefts_are rights_are) joints_are

  -- ---- what they are made of

  record IsLeft (p : Derived) : Type 0 where
    from : Derived
    among : Among from left.all
    passes : has set from.transition.action ≡ false
    is : p ≡ left_of from

  record IsRight (p : Derived) : Type 0 where
    from : Derived
    among : Among from right.all
    passes : has set from.transition.action ≡ false
    is : p ≡ right_of from

  record IsJointTo (u : Derived) (p : Derived) : Type 0 where
    from : Derived
    among : Among from right.all
    same : u.transition.action ≡ from.transition.action
    is : p ≡ both_of u from

  record IsJoint (p : Derived) : Type 0 where
    from : Derived
    among : Among from left.all
    passes : has set from.transition.action ≡ true
    other : IsJointTo from p

  from_lefts : (p : Derived) → Among p lefts → IsLeft p
  from_lefts p h =
      let (u, kept, is) = from_map left_of p (filter (λ u. outside u.transition) left.all) h in
      let (found, passes) = from_filter (λ (u : Derived). outside u.transition) u left.all kept in
      record { from = u; among = found; passes = not-true (has set u.transition.action) passes; is = is }

  from_rights : (p : Derived) → Among p rights → IsRight p
  from_rights p h =
      let (v, kept, is) = from_map right_of p (filter (λ v. outside v.transition) right.all) h in
      let (found, passes) = from_filter (λ (v : Derived). outside v.transition) v right.all kept in
      record { from = v; among = found; passes = not-true (has set v.transition.action) passes; is = is }

  from_joint_to : (u p : Derived) → Among p (joint_to u) → IsJointTo u p
  from_joint_to u p h =
      let (v, kept, is) = from_map (both_of u) p (filter (λ v. u.transition.action == v.transition.action) right.all) h in
      let (found, same) = from_filter (λ (v : Derived). u.transition.action == v.transition.action) v right.all kept in
      record { from = v; among = found; same = eqb-true u.transition.action v.transition.action same; is = is }

  from_joints : (p : Derived) → Among p joints → IsJoint p
  from_joints p h =
      let (u, kept, here) = from_flat_map joint_to p (filter (λ u. inside u.transition) left.all) h in
      let (found, passes) = from_filter (λ (u : Derived). inside u.transition) u left.all kept in
      record { from = u; among = found; passes = passes; other = from_joint_to u p here }

  -- ---- their order

  left_by : (p : Derived) (h : IsLeft p) → p.derivation ≡ OnLeft h.from.derivation
  left_by p h = ap (λ (x : Derived). x.derivation) h.is

  right_by : (p : Derived) (h : IsRight p) → p.derivation ≡ OnRight h.from.derivation
  right_by p h = ap (λ (x : Derived). x.derivation) h.is

  joint_to_by : (u p : Derived) (h : IsJointTo u p) → p.derivation ≡ OnBoth u.derivation h.from.derivation
  joint_to_by u p h = ap (λ (x : Derived). x.derivation) h.is

  left_right : (p q : Derived) → IsLeft p → IsRight q → Before p q
  left_right p q h k = precedes_so p.derivation q.derivation (OnLeft h.from.derivation) (OnRight k.from.derivation) (left_by p h) (right_by q k) tt

  left_joint : (p q : Derived) → IsLeft p → IsJoint q → Before p q
  left_joint p q h k =
      precedes_so p.derivation q.derivation (OnLeft h.from.derivation) (OnBoth k.from.derivation k.other.from.derivation) (left_by p h) (joint_to_by k.from q k.other) tt

  right_joint : (p q : Derived) → IsRight p → IsJoint q → Before p q
  right_joint p q h k =
      precedes_so p.derivation q.derivation (OnRight h.from.derivation) (OnBoth k.from.derivation k.other.from.derivation) (right_by p h) (joint_to_by k.from q k.other) tt

  joint_joint : (u u' p q : Derived) → Before u u' → IsJointTo u p → IsJointTo u' q → Before p q
  joint_joint u u' p q before h k =
      precedes_so p.derivation q.derivation (OnBoth u.derivation h.from.derivation) (OnBoth u'.derivation k.from.derivation) (joint_to_by u p h) (joint_to_by u' q k) (inl before)

  joints_ascend : Ascends joints
  joints_ascend =
      Ascends-flat_map joint_to
      (λ u. Ascends-map (both_of u) (λ p q h. inr (refl, h)) (filter (λ v. u.transition.action == v.transition.action) right.all)
      (Ascends-filter (λ (v : Derived). u.transition.action == v.transition.action) right.all right.ascends))
      (λ u u' before p q here there. joint_joint u u' p q before (from_joint_to u p here) (from_joint_to u' q there))
      (filter (λ u. inside u.transition) left.all) (Ascends-filter (λ (u : Derived). inside u.transition) left.all left.ascends)

  alone_joint : (p q : Derived) → Among p lefts ⊎ Among p rights → IsJoint q → Before p q
  alone_joint p q (inl h) k = left_joint p q (from_lefts p h) k
  alone_joint p q (inr h) k = right_joint p q (from_rights p h) k

  all_ascend : Ascends all
  all_ascend =
      Ascends-append (lefts ++ rights) joints
      (Ascends-append lefts rights
      (Ascends-map left_of (λ p q h. h) (filter (λ u. outside u.transition) left.all) (Ascends-filter (λ (u : Derived). outside u.transition) left.all left.ascends))
      (Ascends-map right_of (λ p q h. h) (filter (λ v. outside v.transition) right.all) (Ascends-filter (λ (v : Derived). outside v.transition) right.all right.ascends))
      (λ p q here there. left_right p q (from_lefts p here) (from_rights q there)))
      joints_ascend
      (λ p q here there. alone_joint p q (from_append p lefts rights here) (from_joints q there))

  -- ---- what they conclude

  abbrev IsConcluded : Derived → Type 0
  IsConcluded p = StateConcludes definitions p.derivation whole p.transition

  left_concluded : (p : Derived) → IsLeft p → IsConcluded p
  left_concluded p h = subst IsConcluded (sym h.is) (h.from.transition, left.concluded h.from h.among, h.passes, refl)

  right_concluded : (p : Derived) → IsRight p → IsConcluded p
  right_concluded p h = subst IsConcluded (sym h.is) (h.from.transition, right.concluded h.from h.among, h.passes, refl)

  abbrev IsComplete : StateDerivation → StateTransition → Type 0
  IsComplete d w = Among (derived d w) all

  left_complete : (d : StateDerivation) (u w : StateTransition) → StateConcludes definitions d (closed_state s) u → has set u.action ≡ false
      → w ≡ left_move (closed_state t) set u → IsComplete (OnLeft d) w
  left_complete d u w h alone is =
      let found = Among-filter (λ (u : Derived). outside u.transition) (derived d u) left.all (left.complete d u h) (not_from_false (has set u.action) alone) in
      let here = Among-map left_of (derived d u) (filter (λ u. outside u.transition) left.all) found in
      subst (IsComplete (OnLeft d)) (sym is) (Among-front (left_of (derived d u)) (lefts ++ rights) joints (Among-front (left_of (derived d u)) lefts rights here))

  right_complete : (d : StateDerivation) (v w : StateTransition) → StateConcludes definitions d (closed_state t) v → has set v.action ≡ false
      → w ≡ right_move (closed_state s) set v → IsComplete (OnRight d) w
  right_complete d v w h alone is =
      let found = Among-filter (λ (v : Derived). outside v.transition) (derived d v) right.all (right.complete d v h) (not_from_false (has set v.action) alone) in
      let here = Among-map right_of (derived d v) (filter (λ v. outside v.transition) right.all) found in
      subst (IsComplete (OnRight d)) (sym is) (Among-front (right_of (derived d v)) (lefts ++ rights) joints (Among-back (right_of (derived d v)) lefts rights here))

  both_complete : (d e : StateDerivation) (u v w : StateTransition) → StateConcludes definitions d (closed_state s) u → StateConcludes definitions e (closed_state t) v
      → has set u.action ≡ true → v.action ≡ u.action → w ≡ joint u v → IsComplete (OnBoth d e) w
  both_complete d e u v w h k within same is =
      let found = Among-filter (λ (u : Derived). inside u.transition) (derived d u) left.all (left.complete d u h) within in
      let found_too = Among-filter (λ (v : Derived). u.action == v.transition.action) (derived e v) right.all (right.complete e v k) (eq-eqb u.action v.action (sym same)) in
      let here = Among-map (both_of (derived d u)) (derived e v) (filter (λ v. u.action == v.transition.action) right.all) found_too in
      let there = Among-flat_map joint_to (both_of (derived d u) (derived e v)) (derived d u) (filter (λ u. inside u.transition) left.all) found here in
      subst (IsComplete (OnBoth d e)) (sym is) (Among-back (both_of (derived d u) (derived e v)) (lefts ++ rights) joints there)

-- the rate that the state has by its tree
its_rate : (definitions : List Definition) (tree : OpenState) → OpensState definitions (closed_state tree) tree → (a : ℕ) (r : Rate)
    → HasApparent definitions (closed_state tree) a r → r ≡ rate_of (apparent_in tree a)
its_rate definitions tree opens a r (other, opens_too, rated) =
    let same = one_tree definitions (closed_state tree) other tree opens_too opens in
    ap rate_of (sym rated) ∙ ap (λ (x : OpenState). rate_of (apparent_in x a)) same

by_rates : (set : List ℕ) (ra ra' rb rb' : Rate) (u v : StateTransition) → ra ≡ ra' → rb ≡ rb' → joint_move set ra rb u v ≡ joint_move set ra' rb' u v
by_rates set ra ra' rb rb' u v h k = ap (λ (r : Rate). joint_move set r rb u v) h ∙ ap (λ (r : Rate). joint_move set ra' r u v) k

module _ (definitions : List Definition) (s t : OpenState) (set : List ℕ) (left : DerivedMoves definitions s) (right : DerivedMoves definitions t)
    (opens_s : OpensState definitions (closed_state s) s) (opens_t : OpensState definitions (closed_state t) t) (rated_s : HasRates set s) (rated_t : HasRates set t) where
  abbrev Sound : Derived → Type 0
  Sound p = IsConcluded definitions s t set left right p

  moves_have : (tree : OpenState) (side : DerivedMoves definitions tree) (u : Derived) → Among u side.all → Among u.transition (moves_in tree)
  moves_have tree side u h = subst (λ (l : List StateTransition). Among u.transition l) side.moves_are (Among-map transition_in u side.all h)

  both_concluded : (u v : Derived) → Among u left.all → Among v right.all → has set u.transition.action ≡ true → u.transition.action ≡ v.transition.action
      → StateConcludes definitions (OnBoth u.derivation v.derivation) (Cooperating (closed_state s) (closed_state t) set)
      (joint_move set (rate_of (apparent_in s u.transition.action)) (rate_of (apparent_in t u.transition.action)) u.transition v.transition)
  both_concluded u v among_u among_v within same =
      let a : ℕ = u.transition.action in
      let (r, rated) = rated_s u.transition (moves_have s left u among_u) within in
      let (r', rated') = rated_t v.transition (moves_have t right v among_v) (subst (λ (n : ℕ). has set n ≡ true) same within) in
      let rated'' : apparent_in t a ≡ Rated r' = subst (λ (n : ℕ). apparent_in t n ≡ Rated r') (sym same) rated' in (
        u.transition,
        v.transition,
        left.concluded u among_u,
        right.concluded v among_v,
        within,
        sym same,
        (rate_of (apparent_in s a), rate_of (apparent_in t a), (s, opens_s, rate_is (apparent_in s a) r rated), (t, opens_t, rate_is (apparent_in t a) r' rated''), refl),
      )

  joint_concluded : (p : Derived) → IsJoint definitions s t set left right p → Sound p
  joint_concluded p h = subst Sound (sym h.other.is) (both_concluded h.from h.other.from h.among h.other.among h.passes h.other.same)

  concluded : (p : Derived) → Among p (all definitions s t set left right) → Sound p
  concluded p among = of_list (from_append p (lefts definitions s t set left right ++ rights definitions s t set left right) (joints definitions s t set left right) among)
    where
      of_alone : Among p (lefts definitions s t set left right) ⊎ Among p (rights definitions s t set left right) → Sound p
      of_alone (inl h) = left_concluded definitions s t set left right p (from_lefts definitions s t set left right p h)
      of_alone (inr h) = right_concluded definitions s t set left right p (from_rights definitions s t set left right p h)

      of_list : Among p (lefts definitions s t set left right ++ rights definitions s t set left right) ⊎ Among p (joints definitions s t set left right) → Sound p
      of_list (inl h) = of_alone (from_append p (lefts definitions s t set left right) (rights definitions s t set left right) h)
      of_list (inr h) = joint_concluded p (from_joints definitions s t set left right p h)

  complete : (d : StateDerivation) (w : StateTransition) → StateConcludes definitions d (Cooperating (closed_state s) (closed_state t) set) w → IsComplete definitions s t set left right d w
  complete (OnLeft d) w (u, h, alone, is) = left_complete definitions s t set left right d u w h alone is
  complete (OnRight d) w (v, h, alone, is) = right_complete definitions s t set left right d v w h alone is
  complete (OnBoth d e) w (u, v, h, k, within, same, (ra, rb, of_s, of_t, is)) =
      let same_ra = its_rate definitions s opens_s u.action ra of_s in
      let same_rb = its_rate definitions t opens_t u.action rb of_t in
      both_complete definitions s t set left right d e u v w h k within same
      (is ∙ by_rates set ra (rate_of (apparent_in s u.action)) rb (rate_of (apparent_in t u.action)) u v same_ra same_rb)
  complete d w h = absurd h

  pub coop_moves : DerivedMoves definitions (CoopOpen s t set)
  coop_moves = record {
    all = all definitions s t set left right;
    moves_are = all_are definitions s t set left right;
    concluded = concluded;
    complete = complete;
    ascends = all_ascend definitions s t set left right;
  }
