-- The entries of a cooperation, as they are appended.
use Rattle.std.proofs.Common.{◌≡◌, ◌==◌, ℕ, zero, suc, ◌+◌, ◌*◌, ◌<◌, ◌≤◌, Bool, true, false, not, cond, List, [], ◌∷◌, ◌++◌, map, filter, flat_map, length, get_or, take, sum_by, Some, None, Ok, Err}
use Rattle.std.proofs.Common.{refl, sym, ap, subst, ◌∙◌, append_assoc, length-append, arith}
use Rattle.std.specs.List.{All, AllByRecursion, Contains}
use Rattle.std.specs.Ordering.{nat_cmp}
use Rattle.std.specs.BTreeMap.{is_at}
use Rattle.std.specs.Map.{lookup}
use Rattle.std.proofs.lemmas.Bool.{eqb-true}
use Rattle.std.proofs.lemmas.List.{append-nil, map-append, map_more, map-id, get_or-map, length-map, take_all}
use Rattle.std.proofs.lemmas.List.Elements.{All-get_or, filter_passes}
use Rattle.std.proofs.lemmas.List.Sums.{sum_by-cons, length-filter, count_by-le-length}
use Rattle.std.proofs.lemmas.List.Concat.{flat_map-append, length-flat_map}
use Rattle.pepa_rates.specs.declared.rate.Rate.{Rate}
use Rattle.pepa_rates.specs.Share.{SameKind, share_of}
use Rattle.pepa_rates.specs.Fraction.{InRange}
use Rattle.pepa_rates.specs.Sum.{fraction_of}
use Rattle.pepa_model.specs.Apparent.{NoRate, Rated}
use Rattle.pepa_steps.specs.Moves.{Move, has, carry, outside_set, joint_of, joints_with, joint_moves}
use Rattle.pepa_steps.specs.OpenStates.{rate_of}
use Rattle.pepa_steps.specs.ApparentAnswers.{apparent_of}
use Rattle.pepa_steps.specs.ActionRates.{rate_in}
use Rattle.pepa_steps.specs.StateVerdict.{OfLength, OfDerivation}
use Rattle.pepa_steps.specs.JointSteps.{places_from, pair_count}
use Rattle.pepa_steps.specs.Combined.{entry_of, target_of, numbered, rate_at, combined, IsRatedBy, AreRatedFor, AreInRangeBy, AreMovesInRange, AddsEntries, HasAdded, AddsJoint, IsJointEntry, AnswersCombined}
use Rattle.pepa_steps.specs.EndNames.{joint_end}
use Rattle.pepa_steps.specs.declared.entries.Entry.{Entry}
use Rattle.pepa_steps.specs.declared.entries.Origin.{Origin}
use Rattle.pepa_steps.specs.declared.entries.Origin.TheVariants.{Left, Right, Both}
use Rattle.pepa_steps.specs.declared.entries.Derived.{Derived}
use Rattle.pepa_rates.specs.declared.frac.RateOverflow.{RateOverflow}
use Rattle.fault_ends.specs.declared.end.End.{End}
use Rattle.fault_ends.specs.declared.end.End.TheVariants as ends
use Rattle.pepa_steps.specs.declared.transitions.StepFault.TheVariants as name
use Rattle.pepa_steps.specs.declared.transitions.StepsEnd.TheVariants.{Fault}
use Rattle.pepa_steps.proofs.Faults.{all_append, all_front}
use Rattle.pepa_steps.proofs.NodeLists.{all_filter, all_map}
use Rattle.pepa_steps.proofs.TakenEntries.{at_place, numbered_length, filter_keeps, filter_skips, shared, shared_more, shared_same, steps_by, at_places, as_many, places_below}

-- ---- lists that are appended, with where each element comes from

module _ (a b : List Entry) (o p : List Origin) where
  pub adds_same : (us vs : List (Move Origin)) → us ≡ vs → AddsEntries a b o p us → AddsEntries a b o p vs
  adds_same us vs same h = record { entries = h.entries ∙ ap (λ l. a ++ map entry_of l) same; origins = h.origins ∙ ap (λ l. o ++ map target_of l) same }

  -- one more
  pub adds_more : (us vs : List (Move Origin)) (m : Move Origin) (b' : List Entry) (p' : List Origin) → AddsEntries a b o p us → b' ≡ b ++ entry_of m ∷ [] → p' ≡ p ++ target_of m ∷ [] → vs ≡ us ++ m ∷ [] → AddsEntries a b' o p' vs
  adds_more us vs m b' p' h push push_too is = record {
    entries = push ∙ ap (λ l. l ++ entry_of m ∷ []) h.entries ∙ append_assoc a (map entry_of us) (entry_of m ∷ []) ∙ ap (λ l. a ++ l) (sym (map-append entry_of us (m ∷ []))) ∙ ap (λ l. a ++ map entry_of l) (sym is);
    origins = push_too ∙ ap (λ l. l ++ target_of m ∷ []) h.origins ∙ append_assoc o (map target_of us) (target_of m ∷ []) ∙ ap (λ l. o ++ l) (sym (map-append target_of us (m ∷ []))) ∙ ap (λ l. o ++ map target_of l) (sym is);
  }

  -- and more
  pub adds_all : (us vs ws : List (Move Origin)) (b' : List Entry) (p' : List Origin) → AddsEntries a b o p us → AddsEntries b b' p p' vs → ws ≡ us ++ vs → AddsEntries a b' o p' ws
  adds_all us vs ws b' p' h k is = record {
    entries = k.entries ∙ ap (λ l. l ++ map entry_of vs) h.entries ∙ append_assoc a (map entry_of us) (map entry_of vs) ∙ ap (λ l. a ++ l) (sym (map-append entry_of us vs)) ∙ ap (λ l. a ++ map entry_of l) (sym is);
    origins = k.origins ∙ ap (λ l. l ++ map target_of vs) h.origins ∙ append_assoc o (map target_of us) (map target_of vs) ∙ ap (λ l. o ++ l) (sym (map-append target_of us vs)) ∙ ap (λ l. o ++ map target_of l) (sym is);
  }

pub adds_none : (a b : List Entry) (o p : List Origin) → a ≡ b → o ≡ p → AddsEntries a b o p []
adds_none a b o p e f = record { entries = sym e ∙ sym (append-nil a); origins = sym f ∙ sym (append-nil o) }

-- ---- one side alone

module _ (types : List ℕ) (us us' : List (Move ℕ)) (u : Move ℕ) (grows : us' ≡ us ++ u ∷ []) where
  pub alone_one : (f : ℕ → Origin) → has types u.action ≡ false → map (carry f) (outside_set types us') ≡ map (carry f) (outside_set types us) ++ carry f u ∷ []
  alone_one f h =
      ap (λ l. map (carry f) (outside_set types l)) grows
      ∙ ap (map (carry f)) (filter_keeps (λ (v : Move ℕ). not (has types v.action)) us u (ap not h))
      ∙ map-append (carry f) (outside_set types us) (u ∷ [])

  pub alone_none : (f : ℕ → Origin) → has types u.action ≡ true → map (carry f) (outside_set types us) ≡ map (carry f) (outside_set types us')
  alone_none f h = sym (ap (λ l. map (carry f) (outside_set types l)) grows ∙ ap (map (carry f)) (filter_skips (λ (v : Move ℕ). not (has types v.action)) us u (ap not h)))

-- ---- both together: one entry of the left side, with the right side's at some indices

pub has_same : (old new : Derived) (us vs : List (Move Origin)) → us ≡ vs → HasAdded old new us → HasAdded old new vs
has_same old new us vs e h = subst (HasAdded old new) e h

pub has_none : (old new : Derived) (us : List (Move Origin)) → us ≡ [] → old ≡ new → HasAdded old new us
has_none old new us e same = has_same old new [] us (sym e) (adds_none _ _ _ _ (ap (λ (d : Derived). d.entries.items) same) (ap (λ (d : Derived). d.origins.items) same), tt)

pub has_more : (old before new : Derived) (us vs ws : List (Move Origin)) → ws ≡ us ++ vs → HasAdded old before us → HasAdded before new vs → HasAdded old new ws
has_more old before new us vs ws is h k =
    has_same old new (us ++ vs) ws (sym is)
    (adds_all _ _ _ _ us vs (us ++ vs) _ _ h.0 k.0 refl, all_append (λ u. InRange (fraction_of u.rate)) us vs h.1 k.1)

module _ (P : Move Origin → Type 0) where
  all_at : (f : ℕ → Move Origin) (indices : List ℕ) (k : ℕ) → k < length indices → AllByRecursion P (map f indices) → P (f (get_or indices k 0))
  all_at f (i ∷ indices) zero lt h = h.0
  all_at f (i ∷ indices) (suc k) lt h = all_at f indices k (omega (arith, lt)) h.1
  all_at f [] k lt h = absurd (omega (arith, lt))

  all_first : (us vs : List (Move Origin)) → AllByRecursion P (us ++ vs) → AllByRecursion P us
  all_first [] vs h = tt
  all_first (u ∷ us) vs h = (h.0, all_first us vs h.1)

-- the entry that stands at an index
entry_there : (at : ℕ) (es : List Entry) (i : ℕ) (e : Entry) (d : Move ℕ) → i < length es → e ≡ get_or es i e → at_place (at + i) e ≡ get_or (numbered at es) i d
entry_there at [] i e d lt is = absurd (omega (arith, lt))
entry_there at (x ∷ es) zero e d lt is =
    let same : at + 0 ≡ at = omega arith in
    ap (λ (y : Entry). at_place (at + 0) y) is ∙ ap (λ (n : ℕ). at_place n x) same
entry_there at (x ∷ es) (suc i) e d lt is =
    let same : at + suc i ≡ (at + 1) + i = omega arith in
    ap (λ (n : ℕ). at_place n e) same ∙ entry_there (at + 1) es i e d (omega (arith, lt)) is

pub entry_at : (es : List Entry) (i : ℕ) (e : Entry) (d : Move ℕ) → i < length es → e ≡ get_or es i e → at_place i e ≡ get_or (numbered 0 es) i d
entry_at es i e d lt is =
    let same : i ≡ 0 + i = omega arith in
    ap (λ (n : ℕ). at_place n e) same ∙ entry_there 0 es i e d lt is

pub in_bounds : (action k : ℕ) (es : List Entry) (indices : List ℕ) → indices ≡ places_from 0 action (numbered 0 es) → k < length indices → get_or indices k 0 < length es
in_bounds action k es indices is lt =
    let places : All (λ i. i < length (numbered 0 es)) indices =
    subst (All (λ i. i < length (numbered 0 es))) (sym is) (places_below (length (numbered 0 es)) 0 action (numbered 0 es) (omega arith)) in
    let below : get_or indices k 0 < length (numbered 0 es) = All-get_or (λ i. i < length (numbered 0 es)) indices k 0 lt places in
    omega (arith, below, numbered_length 0 es)

-- an entry at one of an action's places is by this action
of_place : (d : Move ℕ) (action k : ℕ) (vs : List (Move ℕ)) → k < length (places_from 0 action vs) → action ≡ (get_or vs (get_or (places_from 0 action vs) k 0) d).action
of_place d action k vs lt =
    let fits : k < length (steps_by action vs) = omega (arith, lt, as_many action vs) in
    eqb-true action _ (subst (λ (v : Move ℕ). (action == v.action) ≡ true)
    (ap (λ (xs : List (Move ℕ)). get_or xs k d) (sym (map-id (steps_by action vs)) ∙ sym (at_places (λ (v : Move ℕ). v) d action vs))
    ∙ get_or-map (λ i. get_or vs i d) (places_from 0 action vs) k 0 d lt)
    (All-get_or (λ (v : Move ℕ). (action == v.action) ≡ true) (steps_by action vs) k d fits (filter_passes (λ (v : Move ℕ). action == v.action) vs)))

pub same_action : (action k : ℕ) (es : List Entry) (other : Entry) (indices : List ℕ) → indices ≡ places_from 0 action (numbered 0 es) → (lt : k < length indices)
    → other ≡ get_or es (get_or indices k 0) other → action ≡ other.action
same_action action k es other indices is lt at =
    let fits : k < length (places_from 0 action (numbered 0 es)) = omega (arith, lt, ap length is) in
    of_place (at_place (get_or indices k 0) other) action k (numbered 0 es) fits
    ∙ ap (λ (xs : List ℕ). (get_or (numbered 0 es) (get_or xs k 0) (at_place (get_or indices k 0) other)).action) (sym is)
    ∙ ap (λ (v : Move ℕ). v.action) (sym (entry_at es (get_or indices k 0) other (at_place (get_or indices k 0) other) (in_bounds action k es indices is lt) at))

-- the rate that was found is the one that the entry has
pub kind_of : (rates : List (ℕ × Rate)) (e : Entry) (action : ℕ) (rate : Rate) → action ≡ e.action → Some rate ≡ lookup (is_at (nat_cmp action)) rates → IsRatedBy rates e → SameKind e.rate rate
kind_of rates e action rate same found rated =
    subst (λ (r : Rate). SameKind e.rate r) (sym (ap (λ o. rate_of (apparent_of o)) found ∙ ap (λ (a : ℕ). rate_of (rate_in rates a)) same ∙ ap rate_of rated.1)) rated.2

pub right_kind : (rates : List (ℕ × Rate)) (action k : ℕ) (es : List Entry) (other : Entry) (indices : List ℕ) (rate : Rate)
    → indices ≡ places_from 0 action (numbered 0 es) → k < length indices → other ≡ get_or es (get_or indices k 0) other
    → AreRatedFor action rates es → Some rate ≡ lookup (is_at (nat_cmp action)) rates → SameKind other.rate rate
right_kind rates action k es other indices rate is lt at rated found =
    let below : get_or indices k 0 < length es = in_bounds action k es indices is lt in
    let same : action ≡ other.action = same_action action k es other indices is lt at in
    kind_of rates other action rate same found (rated other (get_or indices k 0, below, sym at) same)

abbrev pub joint_at : Rate → Rate → Move ℕ → List (Move ℕ) → ℕ → Move Origin
joint_at ra rb u vs i = joint_of Both ra rb u (get_or vs i u)

-- what is made of the entry at an index
pub made_at : (place : ℕ) (entry : Entry) (ra rb : Rate) (es : List Entry) (i : ℕ) (other made : Entry) → i < length es → other ≡ get_or es i other → IsJointEntry entry ra other rb (Ok made)
    → made ≡ entry_of (joint_at ra rb (at_place place entry) (numbered 0 es) i)
made_at place entry ra rb es i other made lt at is = is.0 ∙ ap (λ (v : Move ℕ). entry_of (joint_of Both ra rb (at_place place entry) v)) (entry_at es i other (at_place place entry) lt at)

pub origin_at : (place : ℕ) (entry : Entry) (ra rb : Rate) (es : List Entry) (i : ℕ) (other : Entry) → i < length es → other ≡ get_or es i other
    → Both place i ≡ target_of (joint_at ra rb (at_place place entry) (numbered 0 es) i)
origin_at place entry ra rb es i other lt at = ap (λ (v : Move ℕ). target_of (joint_of Both ra rb (at_place place entry) v)) (entry_at es i other (at_place place entry) lt at)

pub range_at : (place : ℕ) (entry : Entry) (ra rb : Rate) (es : List Entry) (i : ℕ) (other : Entry) → i < length es → other ≡ get_or es i other
    → share_of entry.rate ra other.rate rb ≡ (joint_at ra rb (at_place place entry) (numbered 0 es) i).rate
range_at place entry ra rb es i other lt at = ap (λ (v : Move ℕ). (joint_of Both ra rb (at_place place entry) v).rate) (entry_at es i other (at_place place entry) lt at)

pub range_of : (place : ℕ) (entry : Entry) (ra rb : Rate) (es : List Entry) (i : ℕ) (other : Entry) → i < length es → other ≡ get_or es i other
    → InRange (fraction_of (share_of entry.rate ra other.rate rb)) → InRange (fraction_of (joint_at ra rb (at_place place entry) (numbered 0 es) i).rate)
range_of place entry ra rb es i other lt at range = subst (λ (r : Rate). InRange (fraction_of r)) (range_at place entry ra rb es i other lt at) range

-- one more of them
pub adds_joint : (f : ℕ → Move Origin) (old before new : Derived) (indices : List ℕ) (k : ℕ) (made : Entry) (origin : Origin) → k < length indices → made ≡ entry_of (f (get_or indices k 0)) → origin ≡ target_of (f (get_or indices k 0))
    → HasAdded old before (map f (take k indices)) → new.entries.items ≡ before.entries.items ++ made ∷ [] → new.origins.items ≡ before.origins.items ++ origin ∷ []
    → InRange (fraction_of (f (get_or indices k 0)).rate) → HasAdded old new (map f (take (k + 1) indices))
adds_joint f old before new indices k made origin lt is is_too h push push_too fits =
    let u = f (get_or indices k 0) in
    let all = map_more f indices k 0 lt in (
      adds_more _ _ _ _ (map f (take k indices)) (map f (take (k + 1) indices)) u _ _ h.0
          (push ∙ ap (λ (e : Entry). before.entries.items ++ e ∷ []) is) (push_too ∙ ap (λ (o : Origin). before.origins.items ++ o ∷ []) is_too) all,
      subst (λ (l : List (Move Origin)). AreMovesInRange l) (sym all) (all_append (λ u. InRange (fraction_of u.rate)) (map f (take k indices)) (u ∷ []) h.1 (fits, tt)),
    )

module _ (left right : List (ℕ × Rate)) (u : Move ℕ) (vs : List (Move ℕ)) (ra rb : Rate) (indices : List ℕ)
    (left_found : Some ra ≡ lookup (is_at (nat_cmp u.action)) left) (right_found : Some rb ≡ lookup (is_at (nat_cmp u.action)) right)
    (is : indices ≡ places_from 0 u.action vs) where
  all_joined : map (joint_at ra rb u vs) indices ≡ joints_with Both (rate_at left) (rate_at right) vs u
  all_joined =
      ap (map (joint_at ra rb u vs)) is
      ∙ at_places (joint_of Both ra rb u) u u.action vs
      ∙ ap (λ o. map (joint_of Both (rate_of (apparent_of o)) rb u) (steps_by u.action vs)) left_found
      ∙ ap (λ o. map (joint_of Both (rate_at left u.action) (rate_of (apparent_of o)) u) (steps_by u.action vs)) right_found

  -- at the loop's end
  pub joined_all : (old new : Derived) (k : ℕ) → length indices ≤ k → HasAdded old new (map (joint_at ra rb u vs) (take k indices)) → HasAdded old new (joints_with Both (rate_at left) (rate_at right) vs u)
  joined_all old new k end h = has_same old new _ _ (ap (map (joint_at ra rb u vs)) (take_all k indices end) ∙ all_joined) h

  -- one of them has no rate in range
  pub joint_stops : (old new : Derived) (k : ℕ) (rate : Rate) → k < length indices → rate ≡ (joint_at ra rb u vs (get_or indices k 0)).rate
      → ¬ InRange (fraction_of rate) → ¬ AreMovesInRange (joints_with Both (rate_at left) (rate_at right) vs u)
  joint_stops old new k rate lt at bad all =
      bad (subst (λ (r : Rate). InRange (fraction_of r)) (sym at)
      (all_at (λ v. InRange (fraction_of v.rate)) (joint_at ra rb u vs) indices k lt (subst (λ (l : List (Move Origin)). AreMovesInRange l) (sym all_joined) all)))

  pub joint_ends : (old new : Derived) (k : ℕ) (entry other : Entry) (end : End RateOverflow) → k < length indices → share_of entry.rate ra other.rate rb ≡ (joint_at ra rb u vs (get_or indices k 0)).rate
      → IsJointEntry entry ra other rb (Err end) → AddsJoint old new (joints_with Both (rate_at left) (rate_at right) vs u) (Err end)
  joint_ends old new k entry other (ends.Fault overflow) lt at bad = joint_stops old new k (share_of entry.rate ra other.rate rb) lt at bad
  joint_ends old new k entry other ends.Memory lt at bad = tt

-- ---- where the right side has no rate of the action

nothing : (b : Bool) (v : Move ℕ) (rest : List (Move ℕ)) → (b ≡ true → ⊥) → rest ≡ [] → cond b (v ∷ rest) rest ≡ []
nothing true v rest no_way e = absurd (no_way refl)
nothing false v rest no_way e = e

no_entry : (rates : List (ℕ × Rate)) (action at : ℕ) (es : List Entry) → None ≡ lookup (is_at (nat_cmp action)) rates → AreRatedFor action rates es → steps_by action (numbered at es) ≡ []
no_entry rates action at [] none rated = refl
no_entry rates action at (e ∷ es) none rated =
    nothing (action == e.action) (at_place at e) (steps_by action (numbered (at + 1) es))
    (λ h.
    let same : action ≡ e.action = eqb-true action e.action h in
    let it : IsRatedBy rates e = rated e (0, omega arith, refl) same in
    let found : NoRate ≡ Rated it.0 = ap apparent_of none ∙ ap (rate_in rates) same ∙ it.1 in
    absurd cc)
    (no_entry rates action (at + 1) es none (λ u (here : Contains es u) same. rated u (suc here.0, omega (arith, here.1), here.2) same))

pub none_joined : (left right : List (ℕ × Rate)) (u : Move ℕ) (es : List Entry) → None ≡ lookup (is_at (nat_cmp u.action)) right → AreRatedFor u.action right es
    → joints_with Both (rate_at left) (rate_at right) (numbered 0 es) u ≡ []
none_joined left right u es none rated = ap (map (joint_of Both (rate_at left u.action) (rate_at right u.action) u)) (no_entry right u.action 0 es none rated)

-- an action without places adds nothing
pub nothing_joined : (left right : List (ℕ × Rate)) (u : Move ℕ) (vs : List (Move ℕ)) → [] ≡ places_from 0 u.action vs → joints_with Both (rate_at left) (rate_at right) vs u ≡ []
nothing_joined left right u vs none =
    sym (at_places (joint_of Both (rate_at left u.action) (rate_at right u.action) u) u u.action vs)
    ∙ ap (map (joint_at (rate_at left u.action) (rate_at right u.action) u vs)) (sym none)

-- ---- all entries of the left side

module _ (types : List ℕ) (left right : List (ℕ × Rate)) (us us' : List (Move ℕ)) (u : Move ℕ) (vs : List (Move ℕ)) (grows : us' ≡ us ++ u ∷ []) where
  abbrev together_of : List (Move ℕ) → List (Move Origin)
  together_of l = joint_moves Both types (rate_at left) (rate_at right) l vs

  abbrev with_one : List (Move Origin)
  with_one = joints_with Both (rate_at left) (rate_at right) vs u

  joined_more : has types u.action ≡ true → together_of us' ≡ together_of us ++ with_one
  joined_more h =
      ap (flat_map (joints_with Both (rate_at left) (rate_at right) vs)) (shared_more types us us' u grows h)
      ∙ flat_map-append (joints_with Both (rate_at left) (rate_at right) vs) (shared types us) (u ∷ [])
      ∙ ap (λ (xs : List (Move Origin)). together_of us ++ xs) (append-nil with_one)

  joined_same : has types u.action ≡ false → together_of us ≡ together_of us'
  joined_same h = ap (flat_map (joints_with Both (rate_at left) (rate_at right) vs)) (sym (shared_same types us us' u grows h))

  module _ (old before : Derived) (so_far : HasAdded old before (together_of us)) where
    pub joins : (new : Derived) → has types u.action ≡ true → HasAdded before new with_one → HasAdded old new (together_of us')
    joins new h adds = has_more old before new (together_of us) with_one (together_of us') (joined_more h) so_far adds

    pub joins_none : has types u.action ≡ true → with_one ≡ [] → HasAdded old before (together_of us')
    joins_none h none = has_same old before (together_of us) (together_of us') (sym (joined_more h ∙ ap (λ (xs : List (Move Origin)). together_of us ++ xs) none ∙ append-nil (together_of us))) so_far

    pub joins_same : has types u.action ≡ false → HasAdded old before (together_of us')
    joins_same h = has_same old before _ _ (joined_same h) so_far

module _ (P : Move Origin → Type 0) (f : Move ℕ → List (Move Origin)) (p : Move ℕ → Bool) where
  all_rest : (b : Bool) (w : Move ℕ) (rest : List (Move ℕ)) → AllByRecursion P (flat_map f (cond b (w ∷ rest) rest)) → AllByRecursion P (flat_map f rest)
  all_rest true w rest h = all_front P (f w) (flat_map f rest) h
  all_rest false w rest h = h

  -- what holds of all that elements which pass give holds of what one of them gives
  all_given : (us : List (Move ℕ)) (k : ℕ) (u : Move ℕ) → k < length us → get_or us k u ≡ u → p u ≡ true → AllByRecursion P (flat_map f (filter p us)) → AllByRecursion P (f u)
  all_given [] k u lt is h all = absurd (omega (arith, lt))
  all_given (w ∷ us) zero u lt is h all =
      subst (λ (v : Move ℕ). AllByRecursion P (f v)) is
      (all_first P (f w) (flat_map f (filter p us))
      (subst (λ (b : Bool). AllByRecursion P (flat_map f (cond b (w ∷ filter p us) (filter p us)))) (ap p is ∙ h) all))
  all_given (w ∷ us) (suc k) u lt is h all = all_given us k u (omega (arith, lt)) is h (all_rest (p w) w (filter p us) all)

-- a joint entry without a rate in range is one of all
pub joining_stops : (types : List ℕ) (left right : List (ℕ × Rate)) (es : List Entry) (vs : List (Move ℕ)) (k : ℕ) (e : Entry) (old before new : Derived) (end : End RateOverflow)
    → k < length es → e ≡ get_or es k e → has types e.action ≡ true → AddsJoint before new (joints_with Both (rate_at left) (rate_at right) vs (at_place k e)) (Err end)
    → AddsJoint old new (joint_moves Both types (rate_at left) (rate_at right) (numbered 0 es) vs) (Err end)
joining_stops types left right es vs k e old before new (ends.Fault overflow) lt at h bad = λ all.
    let fits : k < length (numbered 0 es) = omega (arith, lt, numbered_length 0 es) in
    bad (all_given (λ v. InRange (fraction_of v.rate)) (joints_with Both (rate_at left) (rate_at right) vs) (λ w. has types w.action) (numbered 0 es) k (at_place k e) fits (sym (entry_at es k e (at_place k e) lt at)) h all)
joining_stops types left right es vs k e old before new ends.Memory lt at h bad = tt

-- ---- the whole list

sum_by-same : {X : Type 0} (f g : X → ℕ) → ((x : X) → f x ≡ g x) → (xs : List X) → sum_by f xs ≡ sum_by g xs
sum_by-same f g same [] = refl
sum_by-same f g same (x ∷ xs) = omega (arith, sum_by-cons f x xs, sum_by-cons g x xs, same x, sum_by-same f g same xs)

sum_by-bound : {X : Type 0} (f : X → ℕ) (m : ℕ) → ((x : X) → f x ≤ m) → (xs : List X) → sum_by f xs ≤ length xs * m
sum_by-bound f m within [] = omega arith
sum_by-bound f m within (x ∷ xs) = omega (arith, sum_by-cons f x xs, within x, sum_by-bound f m within xs)

filter-shorter : {X : Type 0} (test : X → Bool) (xs : List X) → length (filter test xs) ≤ length xs
filter-shorter test xs = omega (arith, length-filter test xs, count_by-le-length test xs)

-- few entries have few pairs
pub few_pairs : (types : List ℕ) (us vs : List Entry) → length us ≤ 65535 → length vs ≤ 65535 → pair_count types (numbered 0 us) (numbered 0 vs) ≤ 65535 * 65535
few_pairs types us vs few_left few_right =
    let bound = sum_by-bound (λ u. length (filter (λ v. u.action == v.action) (numbered 0 vs))) 65535 (λ u. omega (arith, few_right, numbered_length 0 vs, filter-shorter (λ v. u.action == v.action) (numbered 0 vs)))
    (filter (λ u. has types u.action) (numbered 0 us)) in
    omega (arith, bound, numbered_length 0 us, few_left, filter-shorter (λ u. has types u.action) (numbered 0 us))

pub few_alone : (types : List ℕ) (us : List Entry) → length us ≤ 65535 → length (outside_set types (numbered 0 us)) ≤ 65535
few_alone types us few = omega (arith, few, numbered_length 0 us, filter-shorter (λ u. not (has types u.action)) (numbered 0 us))

module _ (types : List ℕ) (l r : List (ℕ × Rate)) (us vs : List Entry) where
  abbrev lefts : List (Move Origin)
  lefts = map (carry Left) (outside_set types (numbered 0 us))

  abbrev rights : List (Move Origin)
  rights = map (carry Right) (outside_set types (numbered 0 vs))

  abbrev joints : List (Move Origin)
  joints = joint_moves Both types (rate_at l) (rate_at r) (numbered 0 us) (numbered 0 vs)

  joint_length : length joints ≡ pair_count types (numbered 0 us) (numbered 0 vs)
  joint_length =
      length-flat_map (joints_with Both (rate_at l) (rate_at r) (numbered 0 vs)) (filter (λ u. has types u.action) (numbered 0 us))
      ∙ sum_by-same (λ u. length (joints_with Both (rate_at l) (rate_at r) (numbered 0 vs) u)) (λ u. length (filter (λ v. u.action == v.action) (numbered 0 vs)))
      (λ u. length-map (filter (λ v. u.action == v.action) (numbered 0 vs)) _) (filter (λ u. has types u.action) (numbered 0 us))

  -- how many there are, from the three counts
  pub total : (a b j : ℕ) → a ≡ length (outside_set types (numbered 0 us)) → b ≡ length (outside_set types (numbered 0 vs)) → j ≡ pair_count types (numbered 0 us) (numbered 0 vs)
      → length (combined types l r us vs) ≡ (a + b) + j
  total a b j count_left count_right count_both =
      omega (
        arith,
        length-append (lefts ++ rights) joints,
        length-append lefts rights,
        length-map (outside_set types (numbered 0 us)) (carry {X = ℕ} {Y = Origin} Left),
        length-map (outside_set types (numbered 0 vs)) (carry {X = ℕ} {Y = Origin} Right),
        joint_length,
      )

  numbers_range : (at : ℕ) (es : List Entry) → AreInRangeBy es → AreMovesInRange (numbered at es)
  numbers_range at [] h = tt
  numbers_range at (e ∷ es) h = (h.0, numbers_range (at + 1) es h.1)

  side_range : (f : ℕ → Origin) (es : List Entry) → AreInRangeBy es → AreMovesInRange (map (carry f) (outside_set types (numbered 0 es)))
  side_range f es h =
      all_map (λ u. InRange (fraction_of u.rate)) (carry f) (outside_set types (numbered 0 es))
      (all_filter (λ u. InRange (fraction_of u.rate)) (λ u. not (has types u.action)) (numbered 0 es) (numbers_range 0 es h))

  -- all three, one after another
  pub all_combined : (old first second third : Derived) → AreInRangeBy us → AreInRangeBy vs → AddsEntries old.entries.items first.entries.items old.origins.items first.origins.items lefts
      → AddsEntries first.entries.items second.entries.items first.origins.items second.origins.items rights → HasAdded second third joints → HasAdded old third (combined types l r us vs)
  all_combined old first second third of_us of_vs f g h =
      has_more old second third (lefts ++ rights) joints (combined types l r us vs) refl
      (has_more old first second lefts rights (lefts ++ rights) refl (f, side_range Left us of_us) (g, side_range Right vs of_vs)) h

  pub joint_fault : (old new : Derived) (end : End RateOverflow) → length (combined types l r us vs) ≤ 65535 → AddsJoint old new joints (Err end) → (before : Derived) → AnswersCombined before new (combined types l r us vs) (Err (joint_end end))
  joint_fault old new (ends.Fault overflow) short out before = (OfDerivation, (short, λ all. out (all_front (λ u. InRange (fraction_of u.rate)) (lefts ++ rights) joints all)), refl)
  joint_fault old new ends.Memory short out before = tt

  pub too_long : (old new : Derived) → 65535 < length (combined types l r us vs) → AnswersCombined old new (combined types l r us vs) (Err (Fault name.ListTooLong))
  too_long old new long = (OfLength, long, refl)
