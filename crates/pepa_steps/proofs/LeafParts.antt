-- What a leaf does: its activities, and the verdict on its parts.
use Rattle.std.proofs.Common.{◌≡◌, ℕ, suc, ◌≤◌, List, [], ◌∷◌, ◌++◌, map, length, slice_get, Some, Ok, Err, refl, sym, ap, subst, ◌∙◌, arith, length-append}
use Rattle.std.specs.List.{AllByRecursion, AllZip}
use Rattle.std.specs.BTreeMap.{BTreeMap}
use Rattle.std.proofs.lemmas.List.{map-append, length-map}
use Rattle.std.proofs.lemmas.Option.{same_Some, slice_get_within}
use Rattle.pepa_rates.specs.Fraction.{InRange}
use Rattle.pepa_rates.specs.Sum.{fraction_of}
use Rattle.pepa_rates.specs.declared.rate.Rate.{Rate}
use Rattle.pepa_rates.specs.declared.rate.RateFault.{RateFault}
use Rattle.pepa_rates.specs.declared.rate.RateFault.TheVariants.{Mixed, Overflow}
use Rattle.pepa_model.specs.Expression.{Expression}
use Rattle.pepa_model.specs.Derivation.{Transition}
use Rattle.pepa_model.specs.Opened.{Opened, OpenPrefix, OpenChoice, OpenConst, Opens, parts, moves}
use Rattle.pepa_model.specs.Verdict as component
use Rattle.pepa_model.specs.PepaModel.{PepaModel, IsModel, StandsForTransition}
use Rattle.pepa_model.specs.Terms.{LeafNode, IsNodeOf}
use Rattle.pepa_model.specs.declared.term.Activity.{Activity}
use Rattle.pepa_model.proofs.OneList.{one_opening}
use Rattle.pepa_steps.specs.Alike.{Alike}
use Rattle.pepa_steps.specs.States.{State, AtLeaf, NodeStandsFor}
use Rattle.pepa_steps.specs.OpenStates.{OpenState, LeafOpen, CoopOpen, HideOpen, OpensState, parts_in, leaf_move}
use Rattle.pepa_steps.specs.StateVerdict.{IsFinePart, OfRates, HasPartFault}
use Rattle.pepa_steps.specs.ActionRates as of_component
use Rattle.pepa_steps.specs.ActionRates.{AnswersRates}
use Rattle.pepa_steps.specs.PartAnswers.{LeadsTo, IsPartOf}
use Rattle.pepa_steps.specs.KeptRates.{AnswersLeaf}
use Rattle.pepa_steps.specs.Traces.{activity_node, IsPartFaultOf}
use Rattle.pepa_steps.specs.EndNames.{rates_end}
use Rattle.fault_ends.specs.declared.end.End.{End}
use Rattle.fault_ends.specs.declared.end.End.TheVariants.{Fault, Memory}
use Rattle.pepa_steps.proofs.Faults.{all_append, all_front}
use Rattle.pepa_steps.proofs.NodeLists.{all_map}
use Rattle.pepa_steps.proofs.ProperRates.{HasProperPrefixes, proper_state}

-- ---- parts of a component

abbrev HasRange : Transition → Type 0
HasRange t = InRange (fraction_of t.rate)

-- not too many moves, and their rates are in range
record IsSmall (o : Opened) : Type 0 where
  short : length (moves o) ≤ 65535
  in_range : AllByRecursion HasRange (moves o)

first_part : {P : Type 0} (Q : P → Type 0) (xs ys : List P) → AllByRecursion Q (xs ++ ys) → AllByRecursion Q xs
first_part Q [] ys h = tt
first_part Q (x ∷ xs) ys h = (h.0, first_part Q xs ys h.1)

-- no part has more moves than the whole, nor others
small_parts : (o : Opened) → IsSmall o → AllByRecursion IsSmall (parts o)
small_parts (OpenPrefix a r next) h = (h, tt)
small_parts (OpenChoice p q) h =
    let sum = length-append (moves p) (moves q) in
    let left : IsSmall p = record { short = omega (arith, sum, h.short); in_range = first_part HasRange (moves p) (moves q) h.in_range } in
    let right : IsSmall q = record { short = omega (arith, sum, h.short); in_range = all_front HasRange (moves p) (moves q) h.in_range } in
    all_append IsSmall (parts p ++ parts q) (OpenChoice p q ∷ []) (all_append IsSmall (parts p) (parts q) (small_parts p left) (small_parts q right)) (h, tt)
small_parts (OpenConst c p) h =
    all_append IsSmall (parts p) (OpenConst c p ∷ []) (small_parts p (record { short = h.short; in_range = h.in_range })) (h, tt)

-- a small part whose apparent rates are in order is in order
fine_parts : (ps : List Opened) → AllByRecursion of_component.HasFineComponentRates ps → AllByRecursion IsSmall ps → AllByRecursion IsFinePart (map LeafOpen ps)
fine_parts [] h k = tt
fine_parts (p ∷ ps) h k =
    let short : length (map leaf_move (moves p)) ≤ 65535 = omega (arith, length-map (moves p) leaf_move, k.0.short) in
    (record { rates = h.0; short = short; in_range = all_map (λ t. InRange (fraction_of t.rate)) leaf_move (moves p) k.0.in_range }, fine_parts ps h.1 k.1)

-- its rates are in range, since they are written
range_of_moves : (o : Opened) → HasProperPrefixes o → AllByRecursion HasRange (moves o)
range_of_moves (OpenPrefix a r next) h = (h.in_range, tt)
range_of_moves (OpenChoice p q) h = all_append HasRange (moves p) (moves q) (range_of_moves p h.0) (range_of_moves q h.1)
range_of_moves (OpenConst c p) h = range_of_moves p h

-- ---- activities as steps

module _ (m : PepaModel) where
  leads : (a : Activity) (t : Transition) → StandsForTransition m.leaves a t → Alike (LeadsTo m) (activity_node a) (leaf_move t)
  leads a t h = record {
    action = sym h.action;
    signals = sym h.signals;
    rate = sym h.rate;
    target = h.numbered ∙ ap (λ (e : Expression). Some e) (sym h.target);
  }

  activity_moves : (activities : List Activity) (ts : List Transition) → AllZip (StandsForTransition m.leaves) activities ts → AllZip (Alike (LeadsTo m)) (map activity_node activities) (map leaf_move ts)
  activity_moves [] [] h = tt
  activity_moves [] (t ∷ ts) h = absurd h
  activity_moves (a ∷ activities) [] h = absurd h
  activity_moves (a ∷ activities) (t ∷ ts) h = (leads a t h.0, activity_moves activities ts h.1)

  activity_targets : (activities : List Activity) (ts : List Transition) → AllZip (StandsForTransition m.leaves) activities ts → AllByRecursion (λ u. IsNodeOf m u.target) (map activity_node activities)
  activity_targets [] [] h = tt
  activity_targets [] (t ∷ ts) h = absurd h
  activity_targets (a ∷ activities) [] h = absurd h
  activity_targets (a ∷ activities) (t ∷ ts) h = (slice_get_within m.leaves a.target h.0.next h.0.numbered, activity_targets activities ts h.1)

  same_length : (activities : List Activity) (ts : List Transition) → AllZip (StandsForTransition m.leaves) activities ts → length ts ≡ length activities
  same_length [] [] h = refl
  same_length [] (t ∷ ts) h = absurd h
  same_length (a ∷ activities) [] h = absurd h
  same_length (a ∷ activities) (t ∷ ts) h = ap suc (same_length activities ts h.1)

  -- what is known of a leaf that opens into o
  record IsLeafWith (o : Opened) (activities : List Activity) : Type 0 where
    small : IsSmall o
    same : AllZip (Alike (LeadsTo m)) (map activity_node activities) (map leaf_move (moves o))

  module _ (sound : IsModel m) (number : ℕ) (e : Expression) (at : slice_get m.leaves number ≡ Some e) (activities : List Activity) (stored : slice_get m.activities number ≡ Some activities) where
    own_stand : (o : Opened) → Opens m.bodies e o → AllZip (StandsForTransition m.leaves) activities (moves o)
    own_stand o opens =
        let leaf = sound.leaves number e at in
        let own : leaf.activities ≡ activities = same_Some _ _ (sym leaf.stored ∙ stored) in
        let same_tree : leaf.opened ≡ o = one_opening m.bodies e e leaf.opened o refl leaf.opens opens in
        subst (λ (l : List Activity). AllZip (StandsForTransition m.leaves) l (moves o)) own
        (subst (λ (o : Opened). AllZip (StandsForTransition m.leaves) leaf.activities (moves o)) same_tree leaf.stand)

    leaf_with : (o : Opened) → Opens m.bodies e o → IsLeafWith o activities
    leaf_with o opens =
        let leaf = sound.leaves number e at in
        let own : leaf.activities ≡ activities = same_Some _ _ (sym leaf.stored ∙ stored) in
        let few : length activities ≤ 65535 = subst (λ (l : List Activity). length l ≤ 65535) own leaf.few in
        let stand = own_stand o opens in
        record {
          small = record {
            short = omega (arith, few, same_length activities (moves o) stand);
            in_range = range_of_moves o (proper_state m sound (AtLeaf e) (LeafNode number) (LeafOpen o) at opens);
          };
          same = activity_moves activities (moves o) stand;
        }

    -- the activities are the leaf's transitions
    pub leaf_steps : (o : Opened) → Opens m.bodies e o → AllZip (Alike (LeadsTo m)) (map activity_node activities) (map leaf_move (moves o))
    leaf_steps o opens = (leaf_with o opens).same

    pub leaf_targets : AllByRecursion (λ u. IsNodeOf m u.target) (map activity_node activities)
    leaf_targets =
        let leaf = sound.leaves number e at in
        activity_targets activities (moves leaf.opened) (own_stand leaf.opened leaf.opens)

    fault_of : (o : Opened) → IsLeafWith o activities → (fault : RateFault) → AnswersRates o (Err (Fault fault))
        → component.IsFirstFault IsFinePart HasPartFault (parts_in (LeafOpen o)) (OfRates fault)
    fault_of o leaf fault first =
        let small : AllByRecursion IsSmall first.before =
        first_part IsSmall first.before (first.at ∷ first.after) (subst (AllByRecursion IsSmall) first.whole (small_parts o leaf.small)) in
        record {
          before = map LeafOpen first.before;
          at = LeafOpen first.at;
          after = map LeafOpen first.after;
          whole = ap (map LeafOpen) first.whole ∙ map-append LeafOpen first.before (first.at ∷ first.after);
          fine = fine_parts first.before first.fine small;
          faulty = record { action = first.faulty.action; counts = first.faulty.counts; faulty = first.faulty.faulty; least = first.faulty.least };
        }

    pub leaf_found : (rates : BTreeMap ℕ Rate) → AnswersLeaf m number (Ok rates) → (state : State) (tree : OpenState) → NodeStandsFor m state (LeafNode number) → OpensState m.bodies state tree
        → IsPartOf m tree rates.entries (map activity_node activities)
    leaf_found rates answers (AtLeaf f) (LeafOpen o) stands opens =
        let same : f ≡ e = cc (stands, at) in
        let own = subst (λ (x : Expression). Opens m.bodies x o) same opens in
        let h = answers e at o own in
        let leaf = leaf_with o own in
        record { fine = fine_parts (parts o) h.0 (small_parts o leaf.small); rates_are = record { each = h.1.each; no_tau = h.1.no_tau }; moves = leaf.same }
    leaf_found rates answers (AtLeaf f) (CoopOpen s t set) stands opens = absurd opens
    leaf_found rates answers (AtLeaf f) (HideOpen s set) stands opens = absurd opens
    leaf_found rates answers state tree stands opens = absurd stands

    pub leaf_fault : (end : End RateFault) → AnswersLeaf m number (Err end) → IsPartFaultOf m (LeafNode number) (rates_end end)
    leaf_fault (Fault Mixed) answers = of_state
      where
        of_state : IsPartFaultOf m (LeafNode number) (rates_end (Fault Mixed))
        of_state (AtLeaf f) (LeafOpen o) stands opens =
            let same : f ≡ e = cc (stands, at) in
            let own = subst (λ (x : Expression). Opens m.bodies x o) same opens in
            (OfRates Mixed, fault_of o (leaf_with o own) Mixed (answers e at o own), refl)
        of_state (AtLeaf f) (CoopOpen s t set) stands opens = absurd opens
        of_state (AtLeaf f) (HideOpen s set) stands opens = absurd opens
        of_state state tree stands opens = absurd stands
    leaf_fault (Fault Overflow) answers = of_state
      where
        of_state : IsPartFaultOf m (LeafNode number) (rates_end (Fault Overflow))
        of_state (AtLeaf f) (LeafOpen o) stands opens =
            let same : f ≡ e = cc (stands, at) in
            let own = subst (λ (x : Expression). Opens m.bodies x o) same opens in
            (OfRates Overflow, fault_of o (leaf_with o own) Overflow (answers e at o own), refl)
        of_state (AtLeaf f) (CoopOpen s t set) stands opens = absurd opens
        of_state (AtLeaf f) (HideOpen s set) stands opens = absurd opens
        of_state state tree stands opens = absurd stands
    leaf_fault Memory answers = tt
