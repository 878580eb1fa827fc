-- The kinds of the activities of a leaf, as one after another is read.
use Rattle.std.proofs.Common.{◌≡◌, ℕ, ◌+◌, ◌<◌, inl, inr, Bool, true, false, not, List, Option, Some, None, refl, sym, ◌∙◌, ap, subst, arith, length, get_or, option_map}
use mathlib.Core.Bool.{beq}
use Rattle.std.specs.Prelude.{slice_get}
use Rattle.std.proofs.lemmas.Bool.{cases_eq}
use Rattle.std.proofs.lemmas.Option.{slice_get_within, same_Some, slice_get-map, slice_get_read}
use Rattle.pepa_rates.specs.declared.rate.Rate.{Rate}
use Rattle.pepa_rates.specs.declared.rate.Rate.TheVariants.{Active, Passive}
use Rattle.pepa_model.specs.PepaModel.{IsMixedAt, IsOtherKind, AreUnmixed}
use Rattle.pepa_model.specs.declared.term.Activity.{Activity}
use Rattle.pepa_checks.specs.declared.summand.Performed.{Performed}
use Rattle.pepa_checks.specs.MixedLists.{is_passive, activities}

-- the first ones are unmixed, and the kinds are theirs
pub record HasKinds (list : List Activity) (count : ℕ) (kind : ℕ → Option Bool) : Type 0 where
  pub unmixed : (place : ℕ) → place < count → ¬ IsMixedAt list place
  pub known : (place : ℕ) (activity : Activity) → place < count → slice_get list place ≡ Some activity → ¬ (kind activity.action ≡ None)
  pub same : (place : ℕ) (activity : Activity) (passive : Bool) → place < count → slice_get list place ≡ Some activity → kind activity.action ≡ Some passive → is_passive activity.rate ≡ passive
  pub first : (action : ℕ) (passive : Bool) → kind action ≡ Some passive → (place : ℕ) × (activity : Activity) × (place < count) × (slice_get list place ≡ Some activity) × (activity.action ≡ action) × (is_passive activity.rate ≡ passive)

pub no_kinds : (list : List Activity) (kind : ℕ → Option Bool) → ((action : ℕ) → kind action ≡ None) → HasKinds list 0 kind
no_kinds list kind empty = record {
  unmixed = λ place low. absurd (omega arith);
  known = λ place activity low. absurd (omega arith);
  same = λ place activity passive low. absurd (omega arith);
  first = λ action passive is. absurd (let e = empty action in cc);
}

-- ---- two kinds

pub apart_from_test : (a b : Bool) → not (beq a b) ≡ true → a ≡ b → ⊥
apart_from_test true true test same = cc
apart_from_test true false test same = cc
apart_from_test false true test same = cc
apart_from_test false false test same = cc

pub same_from_test : (a b : Bool) → not (beq a b) ≡ false → a ≡ b
same_from_test true true test = refl
same_from_test true false test = cc
same_from_test false true test = cc
same_from_test false false test = refl

apart_kinds : (r s : Rate) → IsOtherKind r s → is_passive r ≡ is_passive s → ⊥
apart_kinds (Active p) (Active q) other same = other
apart_kinds (Active p) (Passive q) other same = cc
apart_kinds (Passive p) (Active q) other same = cc
apart_kinds (Passive p) (Passive q) other same = other

other_kinds : (r s : Rate) → (is_passive r ≡ is_passive s → ⊥) → IsOtherKind r s
other_kinds (Active p) (Active q) apart = apart refl
other_kinds (Active p) (Passive q) apart = tt
other_kinds (Passive p) (Active q) apart = tt
other_kinds (Passive p) (Passive q) apart = apart refl

-- ---- one activity more

module _ (list : List Activity) (count : ℕ) (kind : ℕ → Option Bool) (so_far : HasKinds list count kind) (activity : Activity) (is : slice_get list count ≡ Some activity) where
  here_is : (place : ℕ) (other : Activity) → slice_get list place ≡ Some other → place ≡ count → other ≡ activity
  here_is place other stands same = same_Some other activity (sym stands ∙ ap (slice_get list) same ∙ is)

  -- an activity of the first one's kind
  unmixed_with : (passive : Bool) → kind activity.action ≡ Some passive → is_passive activity.rate ≡ passive → ¬ IsMixedAt list count
  unmixed_with passive kind_is rate_is mixed =
      let later : mixed.later ≡ activity = here_is count mixed.later mixed.later_is refl in
      let action : mixed.earlier.action ≡ activity.action = mixed.same_action ∙ ap (λ (a : Activity). a.action) later in
      let earlier = so_far.same mixed.before mixed.earlier passive mixed.is_before mixed.earlier_is (ap kind action ∙ kind_is) in
      let rate : is_passive mixed.later.rate ≡ passive = ap (λ (a : Activity). is_passive a.rate) later ∙ rate_is in
      apart_kinds mixed.earlier.rate mixed.later.rate mixed.other_kind (earlier ∙ sym rate)

  -- an activity of a new type
  unmixed_new : kind activity.action ≡ None → ¬ IsMixedAt list count
  unmixed_new none mixed =
      let later : mixed.later ≡ activity = here_is count mixed.later mixed.later_is refl in
      let action : mixed.earlier.action ≡ activity.action = mixed.same_action ∙ ap (λ (a : Activity). a.action) later in
      so_far.known mixed.before mixed.earlier mixed.is_before mixed.earlier_is (ap kind action ∙ none)

  unmixed_more : ¬ IsMixedAt list count → (place : ℕ) → place < count + 1 → ¬ IsMixedAt list place
  unmixed_more here place low mixed = elim (cases_eq place count) [
    | inl same ↦ here (subst (IsMixedAt list) same mixed)
    | inr other ↦ so_far.unmixed place (omega arith) mixed
  ]

  pub kinds_same : (passive : Bool) → kind activity.action ≡ Some passive → is_passive activity.rate ≡ passive → HasKinds list (count + 1) kind
  kinds_same passive kind_is rate_is = record {
    unmixed = unmixed_more (unmixed_with passive kind_is rate_is);
    known = λ place other low stands none. elim (cases_eq place count) [
      | inl same ↦ let e = ap (λ (a : Activity). kind a.action) (here_is place other stands same) in absurd cc
      | inr apart ↦ so_far.known place other (omega arith) stands none
    ];
    same = λ place other found low stands some. elim (cases_eq place count) [
      | inl same ↦
          let e = here_is place other stands same in
          let e1 = ap (λ (a : Activity). kind a.action) e in
          let e2 = ap (λ (a : Activity). is_passive a.rate) e in
          cc
      | inr apart ↦ so_far.same place other found (omega arith) stands some
    ];
    first = λ action found some.
        let (place, other, low, stands, action_is, found_is) = so_far.first action found some in
        (place, other, omega arith, stands, action_is, found_is);
  }

  pub kinds_new : (more : ℕ → Option Bool) (passive : Bool) → kind activity.action ≡ None → is_passive activity.rate ≡ passive
      → more activity.action ≡ Some passive → ((action : ℕ) → (action ≡ activity.action → ⊥) → more action ≡ kind action) → HasKinds list (count + 1) more
  kinds_new more passive none rate_is new others = record {
    unmixed = unmixed_more (unmixed_new none);
    known = λ place other low stands gone. elim (cases_eq other.action activity.action) [
      | inl same ↦ let e = ap more same in absurd cc
      | inr apart ↦ elim (cases_eq place count) [
        | inl here ↦ apart (ap (λ (a : Activity). a.action) (here_is place other stands here))
        | inr before ↦ so_far.known place other (omega arith) stands (sym (others other.action apart) ∙ gone)
      ]
    ];
    same = λ place other found low stands some. elim (cases_eq place count) [
      | inl here ↦
          let e = here_is place other stands here in
          let e1 = ap (λ (a : Activity). more a.action) e in
          let e2 = ap (λ (a : Activity). is_passive a.rate) e in
          cc
      | inr before ↦ elim (cases_eq other.action activity.action) [
        | inl same ↦ absurd (so_far.known place other (omega arith) stands (ap kind same ∙ none))
        | inr apart ↦ so_far.same place other found (omega arith) stands (sym (others other.action apart) ∙ some)
      ]
    ];
    first = λ action found some. elim (cases_eq action activity.action) [
      | inl same ↦ (count, activity, omega arith, is, sym same, (let e = ap more same in cc))
      | inr apart ↦
          let (place, other, low, stands, action_is, found_is) = so_far.first action found (sym (others action apart) ∙ some) in
          (place, other, omega arith, stands, action_is, found_is)
    ];
  }

  -- an activity of the other kind
  pub mixed_at : (passive : Bool) → kind activity.action ≡ Some passive → (passive ≡ is_passive activity.rate → ⊥) → IsMixedAt list count
  mixed_at passive kind_is apart =
      let (place, other, low, stands, action_is, passive_is) = so_far.first activity.action passive kind_is in
      record {
        later = activity;
        later_is = is;
        before = place;
        is_before = low;
        earlier = other;
        earlier_is = stands;
        same_action = action_is;
        other_kind = other_kinds other.rate activity.rate (λ same. apart (sym passive_is ∙ same));
      }

pub all_unmixed : (list : List Activity) (count : ℕ) (kind : ℕ → Option Bool) → HasKinds list count kind → length list ≡ count → (place : ℕ) → ¬ IsMixedAt list place
all_unmixed list count kind so_far whole place mixed =
    let within = slice_get_within list place mixed.later mixed.later_is in
    so_far.unmixed place (omega arith) mixed

pub activity_at : (list : List Performed) (k : ℕ) (item : Performed) → k < length list → item ≡ get_or list k item → slice_get (activities list) k ≡ Some item.activity
activity_at list k item low is =
    slice_get-map (λ (p : Performed). p.activity) list k ∙ ap (option_map (λ (p : Performed). p.activity)) (slice_get_read list (length list) k item refl low is)

-- one list more
pub unmixed_lists : (lists : List (List Performed)) (number : ℕ) (here : List Performed)
    → ((k : ℕ) (list : List Performed) → k < number → slice_get lists k ≡ Some list → AreUnmixed (activities list))
    → slice_get lists number ≡ Some here → AreUnmixed (activities here)
    → (k : ℕ) (list : List Performed) → k < number + 1 → slice_get lists k ≡ Some list → AreUnmixed (activities list)
unmixed_lists lists number here before is unmixed k list low stands = elim (cases_eq k number) [
  | inl same ↦ subst (λ (l : List Performed). AreUnmixed (activities l)) (same_Some here list (sym is ∙ (sym (ap (slice_get lists) same) ∙ stands))) unmixed
  | inr apart ↦ before k list (omega arith) stands
]
