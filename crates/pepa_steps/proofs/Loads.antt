-- What the buffers hold of a term, from what they hold of its parts.
use Rattle.std.proofs.Common.{◌≡◌, ◌==◌, ℕ, zero, suc, ◌+◌, ◌-◌, ◌<◌, ◌≤◌, true, not, List, [], ◌∷◌, ◌++◌, map, filter, length, slice_get, Some, Result, Ok, Err}
use Rattle.std.proofs.Common.{refl, sym, ap, subst, ◌∙◌, append_assoc, inl, inr, arith}
use Rattle.std.specs.Prelude.{◌⊎◌}
use Rattle.std.specs.List.{AllByRecursion, AllZip, Contains}
use Rattle.std.proofs.lemmas.Option.{get_or_from_slice_get}
use Rattle.std.proofs.lemmas.List.{append-nil, length-append, length-map}
use Rattle.pepa_rates.specs.Fraction.{InRange}
use Rattle.pepa_rates.specs.Share.{SameKind}
use Rattle.pepa_rates.specs.Sum.{fraction_of}
use Rattle.pepa_rates.specs.declared.rate.Rate.{Rate}
use Rattle.pepa_model.specs.Apparent.{Apparent, Rated, IsFine}
use Rattle.pepa_model.specs.PepaModel.{PepaModel, IsModel}
use Rattle.pepa_model.specs.Verdict.{IsFirstFault}
use Rattle.pepa_model.specs.Terms.{TermNode, LeafNode, CoopNode, HideNode, IsNodeOf}
use Rattle.pepa_model.specs.declared.term.Activity.{Activity}
use Rattle.pepa_steps.specs.Moves.{Move, has, carry, outside_set, joints_with, under_hiding}
use Rattle.pepa_steps.specs.Alike.{Alike}
use Rattle.pepa_steps.specs.States.{State, Cooperating, Hiding, NodeStandsFor}
use Rattle.pepa_steps.specs.OpenStates.{OpenState, LeafOpen, CoopOpen, HideOpen, OpensState, parts_in, apparent_in, moves_in}
use Rattle.pepa_steps.specs.StateVerdict.{PartFault, OfRates, OfLength, OfDerivation, HasFineStateRates, IsFinePart, HasPartFault}
use Rattle.pepa_steps.specs.StepsAnswers.{fault_name}
use Rattle.pepa_steps.specs.ActionRates.{rate_in, AllFine}
use Rattle.pepa_steps.specs.StateRates.{rates_of_cooperation, rates_of_hiding}
use Rattle.pepa_steps.specs.Combined.{entry_of, rate_at, combined, AreRatedBy, AreMovesInRange}
use Rattle.pepa_steps.specs.Hidings.{hidden_entry}
use Rattle.pepa_steps.specs.KeptRates.{AnswersLeaf}
use Rattle.pepa_steps.specs.PartAnswers.{StepNode, LeadsTo, IsPartOf, HasFaultOf}
use Rattle.pepa_steps.specs.Traces.{activity_node, IsTargetOf, OriginsTell, steps_side_by_side, Traces, Extends, Loaded, IsPartFaultOf, AnswersLoad, Ends, IsReadySide, EndsReady, IsFoundBy, AddsMark, MakesCoop, AnswersCoop, MakesHiding, AnswersHiding}
use Rattle.pepa_steps.specs.declared.entries.Entry.{Entry}
use Rattle.pepa_steps.specs.declared.entries.Origin.{Origin}
use Rattle.pepa_steps.specs.declared.buffers.Mark.{Mark}
use Rattle.pepa_steps.specs.declared.buffers.Mark.TheVariants as mark
use Rattle.pepa_steps.specs.declared.buffers.Buffers.{Buffers}
use Rattle.pepa_steps.specs.declared.loading.Found.{Found}
use Rattle.pepa_steps.specs.declared.transitions.StepsEnd.{StepsEnd}
use Rattle.pepa_steps.specs.declared.transitions.StepsEnd.TheVariants.{Fault, Memory}
use Rattle.pepa_steps.proofs.Faults.{all_append, first_in_front, first_in_back}
use Rattle.pepa_steps.proofs.NodeLists.{all_same, all_map, all_filter, all_flat_map}
use Rattle.pepa_steps.proofs.Alikes.{zip_count, zip_all, zip_all_back, zip_among}
use Rattle.pepa_steps.proofs.StateLists.{closed_is, move_rated}
use Rattle.pepa_steps.proofs.StateOpens.{stands_for_one, state_opens, state_from_parts}
use Rattle.pepa_steps.proofs.StateParts.{Agrees, part_found, part_ends}
use Rattle.pepa_steps.proofs.CoopStates.{coop_steps, hide_steps, types_same, has_positive, cooperation_agrees, hiding_agrees}
use Rattle.pepa_steps.proofs.LeafParts.{leaf_found, leaf_targets}
use Rattle.pepa_steps.proofs.CoopTargets.{get_kept, get_last, tells, made_entries, pushed_origins, side_by_side}

-- ---- marks and origins, behind which more stands

module _ (m : PepaModel) (marks marks_more : List Mark) (origins origins_more : List Origin) where
  traces_kept : (node : TermNode) (at : ℕ) (ws : List StepNode) → Traces m marks origins node at ws → Traces m (marks ++ marks_more) (origins ++ origins_more) node at ws
  traces_kept (LeafNode n) at ws h = h
  traces_kept (CoopNode x y set) at ws (l, r, n, us, vs, of_x, of_y, here) = (l, r, n, us, vs, traces_kept x l us of_x, traces_kept y r vs of_y, of_case here)
    where
      of_case : ((slice_get marks at ≡ Some (mark.Beside l r n)) × (n ≡ length us) × (ws ≡ steps_side_by_side x y set us vs)) ⊎ ((slice_get marks at ≡ Some (mark.Joined l r n)) × OriginsTell origins n x y set us vs ws)
          → ((slice_get (marks ++ marks_more) at ≡ Some (mark.Beside l r n)) × (n ≡ length us) × (ws ≡ steps_side_by_side x y set us vs)) ⊎ ((slice_get (marks ++ marks_more) at ≡ Some (mark.Joined l r n)) × OriginsTell (origins ++ origins_more) n x y set us vs ws)
      of_case (inl (is, count, whole)) = inl (get_kept marks marks_more at _ is, count, whole)
      of_case (inr (is, tell)) = inr (get_kept marks marks_more at _ is, λ i w e. let h = tell i w e in (h.0, get_kept origins origins_more (n + i) _ h.1, h.2))
  traces_kept (HideNode x set) at ws (us, of_x, is) = (us, traces_kept x at us of_x, is)

extends_same : {X : Type 0} (xs ys : List X) → ys ≡ xs → Extends xs ys
extends_same xs ys e = record { more = []; is = e ∙ sym (append-nil xs) }

extends_by : {X : Type 0} (xs ys zs : List X) → ys ≡ xs ++ zs → Extends xs ys
extends_by xs ys zs e = record { more = zs; is = e }

extends_then : {X : Type 0} {a b c : List X} → Extends a b → Extends b c → Extends a c
extends_then {X} {a} {b} {c} h k = record { more = h.more ++ k.more; is = k.is ∙ ap (λ l. l ++ k.more) h.is ∙ append_assoc a h.more k.more }

chain : {X : Type 0} (a b c u v : List X) → b ≡ a ++ u → c ≡ b ++ v → c ≡ a ++ (u ++ v)
chain a b c u v e f = f ∙ ap (λ l. l ++ v) e ∙ append_assoc a u v

last_is : (old new : List Mark) (at : ℕ) (last : Mark) → at ≡ length old → new ≡ old ++ last ∷ [] → slice_get new at ≡ Some last
last_is old new at last place is = ap (λ (l : List Mark). slice_get l at) is ∙ ap (slice_get (old ++ last ∷ [])) place ∙ get_last old last

kept_by : (m : PepaModel) (node : TermNode) (at : ℕ) (ws : List StepNode) (a b : List Mark) (o p : List Origin) → Extends a b → Extends o p → Traces m a o node at ws → Traces m b p node at ws
kept_by m node at ws a b o p e f h =
    subst (λ (l : List Mark). Traces m l p node at ws) (sym e.is) (subst (λ (l : List Origin). Traces m (a ++ e.more) l node at ws) (sym f.is) (traces_kept m a e.more o f.more node at ws h))

-- ---- faults and ranges, for lists that differ in their targets alone

module _ {X Y : Type 0} (R : X → Y → Type 0) (us : List (Move X)) (vs : List (Move Y)) (alike : AllZip (Alike R) us vs) where
  to_range : AreMovesInRange us → AreMovesInRange vs
  to_range h = zip_all (Alike R) (λ u. InRange (fraction_of u.rate)) (λ u. InRange (fraction_of u.rate)) (λ u v a range. subst (λ (r : Rate). InRange (fraction_of r)) a.rate range) us vs alike h

  from_range : AreMovesInRange vs → AreMovesInRange us
  from_range h = zip_all_back (Alike R) (λ u. InRange (fraction_of u.rate)) (λ u. InRange (fraction_of u.rate)) (λ u v a range. subst (λ (r : Rate). InRange (fraction_of r)) (sym a.rate) range) us vs alike h

  same_fault : (of : ℕ → Apparent) (fault : PartFault) → HasFaultOf of us fault → HasFaultOf of vs fault
  same_fault of (OfRates fault) h = h
  same_fault of OfLength h = (h.0, omega (arith, h.1, zip_count (Alike R) us vs alike))
  same_fault of OfDerivation h = (h.0, omega (arith, h.1, zip_count (Alike R) us vs alike), λ range. h.2 (from_range range))

  same_found : (of : ℕ → Apparent) (found : List (ℕ × Rate)) → IsFoundBy of us found → IsFoundBy of vs found
  same_found of found h = record { fine = h.fine; rates_are = h.rates_are; short = omega (arith, h.short, zip_count (Alike R) us vs alike); in_range = to_range h.in_range }

-- ---- a side that is ready for a cooperation

among_entries : {X : Type 0} (us : List (Move X)) (e : Entry) → Contains (map entry_of us) e → (u : Move X) × Contains us u × (e ≡ entry_of u)
among_entries [] e (k, lt, is) = absurd (omega (arith, lt))
among_entries (u ∷ us) e (zero, lt, is) = (u, (0, omega arith, refl), sym is)
among_entries (u ∷ us) e (suc k, lt, is) =
    let (v, among, same) = among_entries us e (k, omega (arith, lt), is) in
    (v, (suc among.0, omega (arith, among.1), among.2), same)

module _ (m : PepaModel) (sound : IsModel m) where
  ready_of : (types : List ℕ) → AllByRecursion (λ a. 0 < a) types → (tree : OpenState) (rates : List (ℕ × Rate)) (us : List StepNode) → IsPartOf m tree rates us → IsReadySide types rates (map entry_of us)
  ready_of types positive tree rates us h =
      let whole = state_from_parts IsFinePart tree h.fine in
      let count : length us ≡ length (moves_in tree) = zip_count (Alike (LeadsTo m)) us (moves_in tree) h.moves in
      record {
        fine = all_fine whole.rates;
        rated = rated;
        short = omega (arith, count, whole.short, length-map us (entry_of {X = TermNode}));
        in_range = all_map (λ e. InRange (fraction_of e.rate)) entry_of us
            (zip_all_back (Alike (LeadsTo m)) (λ u. InRange (fraction_of u.rate)) (λ t. InRange (fraction_of t.rate))
            (λ u t a range. subst (λ (r : Rate). InRange (fraction_of r)) (sym a.rate) range) us (moves_in tree) h.moves whole.in_range);
      }
    where
      all_fine : HasFineStateRates tree → AllFine rates
      all_fine fine zero = subst IsFine (sym h.rates_are.no_tau) tt
      all_fine fine (suc n) = subst IsFine (sym (h.rates_are.each (suc n) (omega arith))) (fine (suc n) (omega arith))

      rated_step : (u : StepNode) → Contains us u → has types u.action ≡ true → (rate : Rate) × (rate_in rates u.action ≡ Rated rate) × SameKind u.rate rate
      rated_step u there has_it =
          let above : 0 < u.action = has_positive types positive u.action has_it in
          let (t, among, alike) = zip_among (Alike (LeadsTo m)) us (moves_in tree) h.moves u there in
          let above_too : 0 < t.action = omega (arith, above, alike.action) in
          let known = move_rated tree (all_same IsFinePart HasFineStateRates (λ part fine. fine.rates) (parts_in tree) h.fine) t among above_too in
          (known.rate, h.rates_are.each u.action above ∙ ap (apparent_in tree) alike.action ∙ known.rated, subst (λ (r : Rate). SameKind r known.rate) (sym alike.rate) known.kind)

      rated : AreRatedBy types rates (map entry_of us)
      rated e there has_it =
          let (u, among, same) = among_entries us e there in
          let own = rated_step u among (subst (λ (x : Entry). has types x.action ≡ true) same has_it) in
          subst (λ (x : Entry). (rate : Rate) × (rate_in rates x.action ≡ Rated rate) × SameKind x.rate rate) (sym same) own

  -- the types of a set aren't `tau`
  set_positive : (number : ℕ) (set : List ℕ) → slice_get m.sets number ≡ Some set → AllByRecursion (λ a. 0 < a) set
  set_positive number set is = (sound.sets number set is).no_tau

  ready_loaded : (types : List ℕ) → AllByRecursion (λ a. 0 < a) types → (node : TermNode) → IsNodeOf m node → (old new : Buffers) (found : Found) (h : Loaded m node old new found)
      → IsReadySide types found.rates.entries (map entry_of h.steps)
  ready_loaded types positive node known old new found h =
      let (state, stands) = stands_for_one m node known in
      let (tree, opens) = state_opens m sound state node stands in
      ready_of types positive tree found.rates.entries h.steps (h.part state tree stands opens)

  -- ---- leaves

  pub leaf_loaded : (number : ℕ) (e : _) (activities : List Activity) (old new : Buffers) (found : Found) → slice_get m.leaves number ≡ Some e → slice_get m.activities number ≡ Some activities
      → found.start ≡ length old.entries.items → new.entries.items ≡ old.entries.items ++ map (λ a. entry_of (activity_node a)) activities → new.marks.items ≡ old.marks.items → new.origins.items ≡ old.origins.items
      → AnswersLeaf m number (Ok found.rates) → Loaded m (LeafNode number) old new found
  leaf_loaded number e activities old new found at stored start entries marks origins answers = record {
    steps = map activity_node activities;
    start = start;
    entries = entries ∙ ap (λ l. old.entries.items ++ l) (twice activities);
    more_marks = extends_same _ _ marks;
    more_origins = extends_same _ _ origins;
    traced = ap (map activity_node) (sym (get_or_from_slice_get m.activities number activities [] stored));
    targets = leaf_targets m sound number e at activities stored;
    part = leaf_found m sound number e at activities stored found.rates answers;
  }
    where
      twice : (l : List Activity) → map (λ a. entry_of (activity_node a)) l ≡ map entry_of (map activity_node l)
      twice [] = refl
      twice (a ∷ l) = ap (λ r. entry_of (activity_node a) ∷ r) (twice l)

  -- ---- cooperations

  module _ (node x y : TermNode) (number : ℕ) (is : node ≡ CoopNode x y number) (known_node : IsNodeOf m node) where
    known : IsNodeOf m (CoopNode x y number)
    known = subst (IsNodeOf m) is known_node

    -- what is an end for each state of a cooperation is one of the term
    on_sides : (name : _) → ((p q : State) (s t : OpenState) (set : List ℕ) → NodeStandsFor m p x → NodeStandsFor m q y → OpensState m.bodies p s → OpensState m.bodies q t → slice_get m.sets number ≡ Some set
        → (fault : PartFault) × IsFirstFault IsFinePart HasPartFault (parts_in (CoopOpen s t set)) fault × (name ≡ fault_name fault)) → IsPartFaultOf m node (Fault name)
    on_sides name h = subst (λ (n : TermNode). IsPartFaultOf m n (Fault name)) (sym is) of_state
      where
        of_state : IsPartFaultOf m (CoopNode x y number) (Fault name)
        of_state (Cooperating p q set) (CoopOpen s t other) (of_p, of_q, at) (opens_p, opens_q, same) =
            subst (λ (o : List ℕ). (fault : PartFault) × IsFirstFault IsFinePart HasPartFault (parts_in (CoopOpen s t o)) fault × (name ≡ fault_name fault)) (sym same) (h p q s t set of_p of_q opens_p opens_q at)
        of_state (Cooperating p q set) (LeafOpen o) stands opens = absurd opens
        of_state (Cooperating p q set) (HideOpen s other) stands opens = absurd opens
        of_state state tree stands opens = absurd stands

    pub left_end : (end : StepsEnd) → IsPartFaultOf m x end → IsPartFaultOf m node end
    left_end (Fault name) ends = on_sides name (λ p q s t set of_p of_q opens_p opens_q at.
        let h = ends p s of_p opens_p in
        (h.0, first_in_front IsFinePart HasPartFault h.0 (parts_in s ++ parts_in t) (CoopOpen s t set ∷ []) (first_in_front IsFinePart HasPartFault h.0 (parts_in s) (parts_in t) h.1), h.2))
    left_end Memory ends = tt

    module _ (b0 b1 : Buffers) (l : Found) (of_x : Loaded m x b0 b1 l) where
      pub right_end : (end : StepsEnd) → IsPartFaultOf m y end → IsPartFaultOf m node end
      right_end (Fault name) ends = on_sides name (λ p q s t set of_p of_q opens_p opens_q at.
          let h = ends q t of_q opens_q in
          let before = of_x.part p s of_p opens_p in (
            h.0,
            first_in_front IsFinePart HasPartFault h.0 (parts_in s ++ parts_in t) (CoopOpen s t set ∷ []) (first_in_back IsFinePart HasPartFault h.0 (parts_in s) (parts_in t) before.fine h.1),
            h.2,
          ))
      right_end Memory ends = tt

      module _ (b2 : Buffers) (r : Found) (of_y : Loaded m y b1 b2 r) (types : List ℕ) (are : slice_get m.sets number ≡ Some types) where
        abbrev us : List StepNode
        us = of_x.steps

        abbrev vs : List StepNode
        vs = of_y.steps

        abbrev steps : List StepNode
        steps = coop_steps types number x y l.rates.entries r.rates.entries us vs

        abbrev combination : List (Move Origin)
        combination = combined types l.rates.entries r.rates.entries (map entry_of us) (map entry_of vs)

        both_end : Ends b2.entries.items b0.entries.items (map entry_of us) (map entry_of vs) l.start r.start
        both_end = record {
          is = of_y.entries ∙ ap (λ l. l ++ map entry_of vs) of_x.entries;
          first_is = sym of_x.start;
          second_is = ap length (sym of_x.entries) ∙ sym of_y.start;
        }

        pub both_ready : EndsReady types b2.entries.items l r
        both_ready = record {
          front = b0.entries.items;
          us = map entry_of us;
          vs = map entry_of vs;
          ends = both_end;
          left = ready_loaded types (set_positive number types are) x known.0 b0 b1 l of_x;
          right = ready_loaded types (set_positive number types are) y known.1 b1 b2 r of_y;
        }

        agrees : (p q : State) (s t : OpenState) (set : List ℕ) → NodeStandsFor m p x → NodeStandsFor m q y → OpensState m.bodies p s → OpensState m.bodies q t → slice_get m.sets number ≡ Some set → types ≡ set
            → Agrees m (rates_of_cooperation types l.rates.entries r.rates.entries) steps (CoopOpen s t types)
        agrees p q s t set of_p of_q opens_p opens_q at same =
            cooperation_agrees m p q s t x y number types l.rates.entries r.rates.entries us vs (of_x.part p s of_p opens_p) (of_y.part q t of_q opens_q) of_p of_q (at ∙ ap (λ (l : List ℕ). Some l) (sym same))
            (set_positive number types are) (closed_is m.bodies p s opens_p) (closed_is m.bodies q t opens_q)

        alike : AllZip (Alike (IsTargetOf x y number us vs)) combination steps
        alike = tells types number x y l.rates.entries r.rates.entries us vs

        pub coop_end : (b3 : Buffers) (end : StepsEnd) → ((front us vs : List Entry) → Ends b2.entries.items front us vs l.start r.start → AnswersCoop types front us vs l r b2 b3 (Err end)) → IsPartFaultOf m node end
        coop_end b3 (Fault name) answers =
            let h = answers b0.entries.items (map entry_of us) (map entry_of vs) both_end in
            let fault = same_fault (IsTargetOf x y number us vs) combination steps alike (rates_of_cooperation types l.rates.entries r.rates.entries) h.0 h.1 in
            on_sides name (λ p q s t set of_p of_q opens_p opens_q at.
            let same = types_same m number types set are at in
            let first = part_ends m (rates_of_cooperation types l.rates.entries r.rates.entries) steps (CoopOpen s t types) (agrees p q s t set of_p of_q opens_p opens_q at same)
            (parts_in s ++ parts_in t) refl (all_append IsFinePart (parts_in s) (parts_in t) (of_x.part p s of_p opens_p).fine (of_y.part q t of_q opens_q).fine) h.0 fault in
            (h.0, subst (λ (o : List ℕ). IsFirstFault IsFinePart HasPartFault (parts_in (CoopOpen s t o)) h.0) same first, h.2))
        coop_end b3 Memory answers = tt

        targets : AllByRecursion (λ u. IsNodeOf m u.target) steps
        targets =
            let stays = λ (u : StepNode). IsNodeOf m u.target in
            all_append stays _ _
            (all_append stays _ _
            (all_map stays (carry (λ a. CoopNode a y number)) (outside_set types us)
            (all_same stays (λ u. IsNodeOf m (CoopNode u.target y number)) (λ u h. (h, known.1, known.2)) (outside_set types us) (all_filter stays (λ u. not (has types u.action)) us of_x.targets)))
            (all_map stays (carry (λ b. CoopNode x b number)) (outside_set types vs)
            (all_same stays (λ u. IsNodeOf m (CoopNode x u.target number)) (λ u h. (known.0, h, known.2)) (outside_set types vs) (all_filter stays (λ u. not (has types u.action)) vs of_y.targets))))
            (all_flat_map stays stays (joints_with (λ a b. CoopNode a b number) (rate_at l.rates.entries) (rate_at r.rates.entries) vs)
            (λ u hu. all_map stays _ (filter (λ v. u.action == v.action) vs)
            (all_same stays (λ v. IsNodeOf m (CoopNode u.target v.target number)) (λ v hv. (hu, hv, known.2)) (filter (λ v. u.action == v.action) vs) (all_filter stays (λ v. u.action == v.action) vs of_y.targets)))
            (filter (λ u. has types u.action) us) (all_filter stays (λ u. has types u.action) us of_x.targets))

        module _ (b3 : Buffers) (found : Found) (makes : MakesCoop types b0.entries.items (map entry_of us) (map entry_of vs) l r b2 b3 found) where
          marks_on : AddsMark types l r combination b2 b3 → Extends b2.marks.items b3.marks.items
          marks_on (inl (none, marks, origins)) = extends_by _ _ _ marks
          marks_on (inr (marks, origins)) = extends_by _ _ _ marks

          origins_on : AddsMark types l r combination b2 b3 → Extends b2.origins.items b3.origins.items
          origins_on (inl (none, marks, origins)) = extends_same _ _ origins
          origins_on (inr (marks, origins)) = extends_by _ _ _ origins

          traced : AddsMark types l r combination b2 b3 → Traces m b3.marks.items b3.origins.items (CoopNode x y number) found.mark steps
          traced marked = (
            l.mark,
            r.mark,
            start_of marked,
            us,
            vs,
            kept_by m x l.mark us _ _ _ _ (extends_then of_y.more_marks (marks_on marked)) (extends_then of_y.more_origins (origins_on marked)) of_x.traced,
            kept_by m y r.mark vs _ _ _ _ (marks_on marked) (origins_on marked) of_y.traced,
            of_case marked,
          )
            where
              start_of : AddsMark types l r combination b2 b3 → ℕ
              start_of (inl h) = r.start - l.start
              start_of (inr h) = length b2.origins.items

              counted : r.start - l.start ≡ length us
              counted =
                  let long : r.start ≡ l.start + length (map entry_of us) = of_y.start ∙ ap length of_x.entries ∙ length-append b0.entries.items (map entry_of us) ∙ ap (λ (n : ℕ). n + length (map entry_of us)) (sym of_x.start) in
                  omega (arith, long, length-map us (entry_of {X = TermNode}))

              of_case : (marked : AddsMark types l r combination b2 b3)
                  → ((slice_get b3.marks.items found.mark ≡ Some (mark.Beside l.mark r.mark (start_of marked))) × (start_of marked ≡ length us) × (steps ≡ steps_side_by_side x y number us vs))
                  ⊎ ((slice_get b3.marks.items found.mark ≡ Some (mark.Joined l.mark r.mark (start_of marked))) × OriginsTell b3.origins.items (start_of marked) x y number us vs steps)
              of_case (inl (none, marks, origins)) =
                  inl (
                    last_is b2.marks.items b3.marks.items found.mark _ makes.place marks,
                    counted,
                    ap (λ (ts : List ℕ). coop_steps ts number x y l.rates.entries r.rates.entries us vs) none
                        ∙ side_by_side (λ a. CoopNode a y number) (λ b. CoopNode x b number) (λ a b. CoopNode a b number) (rate_at l.rates.entries) (rate_at r.rates.entries) us vs,
                  )
              of_case (inr (marks, origins)) =
                  inr (last_is b2.marks.items b3.marks.items found.mark _ makes.place marks, pushed_origins types number x y l.rates.entries r.rates.entries us vs b2.origins.items b3.origins.items origins)

          part : (state : State) (tree : OpenState) → NodeStandsFor m state (CoopNode x y number) → OpensState m.bodies state tree → IsPartOf m tree found.rates.entries steps
          part (Cooperating p q set) (CoopOpen s t other) (of_p, of_q, at) (opens_p, opens_q, same) =
              let here = types_same m number types set are at in
              subst (λ (o : List ℕ). IsPartOf m (CoopOpen s t o) found.rates.entries steps) (here ∙ sym same)
              (part_found m (rates_of_cooperation types l.rates.entries r.rates.entries) steps (CoopOpen s t types) (agrees p q s t set of_p of_q opens_p opens_q at here)
              (parts_in s ++ parts_in t) refl (all_append IsFinePart (parts_in s) (parts_in t) (of_x.part p s of_p opens_p).fine (of_y.part q t of_q opens_q).fine) found.rates.entries
              (same_found (IsTargetOf x y number us vs) combination steps alike (rates_of_cooperation types l.rates.entries r.rates.entries) found.rates.entries makes.found_by))
          part (Cooperating p q set) (LeafOpen o) stands opens = absurd opens
          part (Cooperating p q set) (HideOpen s other) stands opens = absurd opens
          part state tree stands opens = absurd stands

          made_loaded : Loaded m (CoopNode x y number) b0 b3 found
          made_loaded = record {
            steps = steps;
            start = makes.start ∙ of_x.start;
            entries = makes.entries ∙ ap (λ l. b0.entries.items ++ l) (made_entries types number x y l.rates.entries r.rates.entries us vs);
            more_marks = extends_then (extends_then of_x.more_marks of_y.more_marks) (marks_on makes.marked);
            more_origins = extends_then (extends_then of_x.more_origins of_y.more_origins) (origins_on makes.marked);
            traced = traced makes.marked;
            targets = targets;
            part = part;
          }

        pub coop_loaded : (b3 : Buffers) (found : Found) → ((front us vs : List Entry) → Ends b2.entries.items front us vs l.start r.start → AnswersCoop types front us vs l r b2 b3 (Ok found)) → Loaded m node b0 b3 found
        coop_loaded b3 found answers = subst (λ (n : TermNode). Loaded m n b0 b3 found) (sym is) (made_loaded b3 found (answers b0.entries.items (map entry_of us) (map entry_of vs) both_end))

        pub coop_answers : (b3 : Buffers) (result : Result Found StepsEnd) → ((front us vs : List Entry) → Ends b2.entries.items front us vs l.start r.start → AnswersCoop types front us vs l r b2 b3 result) → AnswersLoad m node b0 b3 result
        coop_answers b3 (Ok found) answers = coop_loaded b3 found answers
        coop_answers b3 (Err end) answers = coop_end b3 end answers

  -- ---- hidings

  module _ (node x : TermNode) (number : ℕ) (is : node ≡ HideNode x number) (known_node : IsNodeOf m node) where
    known_hiding : IsNodeOf m (HideNode x number)
    known_hiding = subst (IsNodeOf m) is known_node

    on_inner : (name : _) → ((p : State) (s : OpenState) (set : List ℕ) → NodeStandsFor m p x → OpensState m.bodies p s → slice_get m.sets number ≡ Some set
        → (fault : PartFault) × IsFirstFault IsFinePart HasPartFault (parts_in (HideOpen s set)) fault × (name ≡ fault_name fault)) → IsPartFaultOf m node (Fault name)
    on_inner name h = subst (λ (n : TermNode). IsPartFaultOf m n (Fault name)) (sym is) of_state
      where
        of_state : IsPartFaultOf m (HideNode x number) (Fault name)
        of_state (Hiding p set) (HideOpen s other) (of_p, at) (opens_p, same) =
            subst (λ (o : List ℕ). (fault : PartFault) × IsFirstFault IsFinePart HasPartFault (parts_in (HideOpen s o)) fault × (name ≡ fault_name fault)) (sym same) (h p s set of_p opens_p at)
        of_state (Hiding p set) (LeafOpen o) stands opens = absurd opens
        of_state (Hiding p set) (CoopOpen s t other) stands opens = absurd opens
        of_state state tree stands opens = absurd stands

    pub inner_end : (end : StepsEnd) → IsPartFaultOf m x end → IsPartFaultOf m node end
    inner_end (Fault name) ends = on_inner name (λ p s set of_p opens at.
        let h = ends p s of_p opens in
        (h.0, first_in_front IsFinePart HasPartFault h.0 (parts_in s) (HideOpen s set ∷ []) h.1, h.2))
    inner_end Memory ends = tt

    module _ (b0 b1 : Buffers) (inner : Found) (of_x : Loaded m x b0 b1 inner) (types : List ℕ) (are : slice_get m.sets number ≡ Some types) where
      pub inner_fine : AllFine inner.rates.entries
      inner_fine = (ready_loaded types (set_positive number types are) x known_hiding.0 b0 b1 inner of_x).fine

      pub inner_within : inner.start ≤ length b1.entries.items
      inner_within = let long = ap length of_x.entries ∙ length-append b0.entries.items (map entry_of of_x.steps) in omega (arith, long, of_x.start)

      abbrev hidden_list : List StepNode
      hidden_list = hide_steps types number of_x.steps

      hides : (p : State) (s : OpenState) (set : List ℕ) → NodeStandsFor m p x → OpensState m.bodies p s → slice_get m.sets number ≡ Some set → types ≡ set
          → Agrees m (rates_of_hiding types inner.rates.entries) hidden_list (HideOpen s types)
      hides p s set of_p opens at same = hiding_agrees m s number types inner.rates.entries of_x.steps (of_x.part p s of_p opens) (at ∙ ap (λ (l : List ℕ). Some l) (sym same))

      hide_end : (b2 : Buffers) (end : StepsEnd) → AnswersHiding types inner b1 b2 (Err end) → IsPartFaultOf m node end
      hide_end b2 (Fault name) (fault, least, is_name) = on_inner name (λ p s set of_p opens at.
          let same = types_same m number types set are at in
          let first = part_ends m (rates_of_hiding types inner.rates.entries) hidden_list (HideOpen s types) (hides p s set of_p opens at same) (parts_in s) refl (of_x.part p s of_p opens).fine (OfRates fault) least in
          (OfRates fault, subst (λ (o : List ℕ). IsFirstFault IsFinePart HasPartFault (parts_in (HideOpen s o)) (OfRates fault)) same first, is_name))
      hide_end b2 Memory answers = tt

      hidden_entries : (us : List StepNode) → map (hidden_entry types) (map entry_of us) ≡ map entry_of (hide_steps types number us)
      hidden_entries [] = refl
      hidden_entries (u ∷ us) = ap (λ l. hidden_entry types (entry_of u) ∷ l) (hidden_entries us)

      hidden_count : length hidden_list ≡ length of_x.steps
      hidden_count = length-map of_x.steps (under_hiding {X = TermNode} {Y = TermNode} (λ a. HideNode a number) types)

      module _ (b2 : Buffers) (found : Found) (makes : MakesHiding types inner b1 b2 found) where
        hide_part : (state : State) (tree : OpenState) → NodeStandsFor m state (HideNode x number) → OpensState m.bodies state tree → IsPartOf m tree found.rates.entries hidden_list
        hide_part (Hiding p set) (HideOpen s other) (of_p, at) (opens_p, same) =
            let here = types_same m number types set are at in
            let own = of_x.part p s of_p opens_p in
            let whole = state_from_parts IsFinePart s own.fine in
            let count = zip_count (Alike (LeadsTo m)) of_x.steps (moves_in s) own.moves in
            subst (λ (o : List ℕ). IsPartOf m (HideOpen s o) found.rates.entries hidden_list) (here ∙ sym same)
            (part_found m (rates_of_hiding types inner.rates.entries) hidden_list (HideOpen s types) (hides p s set of_p opens_p at here) (parts_in s) refl own.fine found.rates.entries
            (record {
              fine = makes.fine;
              rates_are = makes.rates_are;
              short = omega (arith, count, whole.short, hidden_count);
              in_range = all_map (λ u. InRange (fraction_of u.rate)) (under_hiding (λ a. HideNode a number) types) of_x.steps
                  (zip_all_back (Alike (LeadsTo m)) (λ u. InRange (fraction_of u.rate)) (λ t. InRange (fraction_of t.rate))
                  (λ u t a range. subst (λ (r : Rate). InRange (fraction_of r)) (sym a.rate) range) of_x.steps (moves_in s) own.moves whole.in_range);
            }))
        hide_part (Hiding p set) (LeafOpen o) stands opens = absurd opens
        hide_part (Hiding p set) (CoopOpen s t other) stands opens = absurd opens
        hide_part state tree stands opens = absurd stands

        hide_loaded : Loaded m (HideNode x number) b0 b2 found
        hide_loaded = record {
          steps = hidden_list;
          start = makes.start ∙ of_x.start;
          entries = makes.entries b0.entries.items (map entry_of of_x.steps) of_x.entries (sym of_x.start) ∙ ap (λ l. b0.entries.items ++ l) (hidden_entries of_x.steps);
          more_marks = extends_then of_x.more_marks (extends_same _ _ makes.marks);
          more_origins = extends_then of_x.more_origins (extends_same _ _ makes.origins);
          traced = (
            of_x.steps,
            subst (λ (at : ℕ). Traces m b2.marks.items b2.origins.items x at of_x.steps) (sym makes.mark_is)
                (kept_by m x inner.mark of_x.steps _ _ _ _ (extends_same _ _ makes.marks) (extends_same _ _ makes.origins) of_x.traced),
            ap (λ (ts : List ℕ). hide_steps ts number of_x.steps) (sym (get_or_from_slice_get m.sets number types [] are)),
          );
          targets = all_map (λ u. IsNodeOf m u.target) (under_hiding (λ a. HideNode a number) types) of_x.steps
              (all_same (λ u. IsNodeOf m u.target) (λ u. IsNodeOf m (HideNode u.target number)) (λ u h. (h, known_hiding.1)) of_x.steps of_x.targets);
          part = hide_part;
        }

      pub hide_answers : (b2 : Buffers) (result : Result Found StepsEnd) → AnswersHiding types inner b1 b2 result → AnswersLoad m node b0 b2 result
      hide_answers b2 (Ok found) makes = subst (λ (n : TermNode). Loaded m n b0 b2 found) (sym is) (hide_loaded b2 found makes)
      hide_answers b2 (Err end) answers = hide_end b2 end answers
