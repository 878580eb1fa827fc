-- At a point there is at most one jump, and none where the replication stops.
use Rattle.std.proofs.Common.{◌≡◌, ℕ, zero, suc, ◌+◌, ◌-◌, ◌*◌, ◌/◌, ◌^◌, ◌<◌, ◌≤◌, ◌⊎◌, inl, inr, List, [], length, take, map, sum, Option, Some, slice_get, refl, ap, sym, ◌∙◌, subst, arith}
use Rattle.std.proofs.lemmas.Bool.{cases_lt}
use Rattle.pepa_model.specs.PepaModel.{PepaModel}
use Rattle.pepa_steps.specs.States.{State, StateTransition}
use Rattle.pepa_steps.specs.Rules.{IsTransitionList}
use Rattle.pepa_steps.specs.Combined.{entry_of}
use Rattle.pepa_steps.specs.WholeVerdict.{HasPassive, AreWeighed, rates_of, StateStop, OfPart, OfPassive, OfWeights, IsWholeVerdict}
use Rattle.pepa_steps.specs.declared.entries.Entry.{Entry}
use Rattle.pepa_steps.proofs.OneState.{one_list}
use Rattle.pepa_steps.proofs.OneVerdict.{one_verdict, verdict_or_none}
use Rattle.sim_draws.specs.FairDraw.{IsDrawBelow}
use Rattle.sim_draws.proofs.OneDraw.{one_exponential, not_both, one_below, none_below}
use Rattle.sim_space.specs.Stops.{stop_of_verdict}
use Rattle.sim_space.specs.LoadedLists.{weights_in, IsChoiceList, IsChosen}
use Rattle.sim_space.specs.declared.stop.Stop.{Stop}
use Rattle.sim_space.specs.declared.stop.Stop.TheVariants.{Mixed, Overflow, ListTooLong, PassiveLeft, WeightOverflow, TimeOverflow, DrawLimit}
use Rattle.sim_replication.specs.Signals.{TakenJump}
use Rattle.sim_replication.specs.Jumps.{Point, whole_of, time_after, IsTimeDraw, choice_numbers, JumpsTo, IsOutOfNumbers, NoTime, NoChoice, HasChoice, StopsBy}

-- ---- the list

module _ (m : PepaModel) (q : State) where
  pub one_choice_list : (xs ys : List Entry) → IsChoiceList m q xs → IsChoiceList m q ys → xs ≡ ys
  one_choice_list xs ys a b =
      a.same ∙ ap (λ (ts : List StateTransition). map entry_of ts) (one_list m.bodies q a.transitions b.transitions a.listed b.listed) ∙ sym b.same

  same_passive : (ts us : List StateTransition) → IsTransitionList m.bodies q ts → IsTransitionList m.bodies q us → HasPassive (rates_of ts) → ¬ HasPassive (rates_of us) → ⊥
  same_passive ts us h k passive active = active (subst (λ (l : List StateTransition). HasPassive (rates_of l)) (one_list m.bodies q ts us h k) passive)

  -- a state has one verdict that names a stop
  pub one_state_stop : (s t : StateStop) → IsWholeVerdict m.bodies q s → IsWholeVerdict m.bodies q t → s ≡ t
  one_state_stop (OfPart f) (OfPart g) h k = ap OfPart (one_verdict m.bodies q f g h k)
  one_state_stop (OfPart f) OfPassive h k = absurd (verdict_or_none m.bodies q f h k.0)
  one_state_stop (OfPart f) OfWeights h k = absurd (verdict_or_none m.bodies q f h k.0)
  one_state_stop OfPassive (OfPart g) h k = absurd (verdict_or_none m.bodies q g k h.0)
  one_state_stop OfWeights (OfPart g) h k = absurd (verdict_or_none m.bodies q g k h.0)
  one_state_stop OfPassive OfPassive h k = refl
  one_state_stop OfWeights OfWeights h k = refl
  one_state_stop OfPassive OfWeights (fine, (ts, is, passive)) (also, (us, are, active, heavy)) = absurd (same_passive ts us is are passive active)
  one_state_stop OfWeights OfPassive (fine, (ts, is, active, heavy)) (also, (us, are, passive)) = absurd (same_passive us ts are is passive active)

  -- and none where it has a list to choose from
  pub list_or_stop : (s : StateStop) (xs : List Entry) → IsWholeVerdict m.bodies q s → IsChoiceList m q xs → ⊥
  list_or_stop (OfPart f) xs h l = verdict_or_none m.bodies q f h l.fine
  list_or_stop OfPassive xs (also, (ts, is, passive)) l = same_passive ts l.transitions is l.listed passive l.active
  list_or_stop OfWeights xs (also, (ts, is, light, heavy)) l =
      heavy (subst (λ (ts : List StateTransition). AreWeighed (rates_of ts)) (one_list m.bodies q l.transitions ts l.listed is) l.weighed)

-- ---- the jump

chosen_one : (ws : List ℕ) (c i j : ℕ) → IsChosen ws c i → IsChosen ws c j → i ≡ j
chosen_one ws c i j a b =
    elim (cases_lt i j) [
      | inl less ↦ let f = b.first (i + 1) (omega arith) in absurd (omega (arith, a.above, f))
      | inr more ↦ elim (cases_lt j i) [
        | inl less ↦ let f = a.first (j + 1) (omega arith) in absurd (omega (arith, b.above, f))
        | inr less ↦ omega arith
      ]
    ]

point_same : (x y : Point) → x.state ≡ y.state → x.time ≡ y.time → x.place ≡ y.place → x ≡ y
point_same x y e f g =
    ap (λ (q : State). let p : Point = record { state = q; time = x.time; place = x.place } in p) e
    ∙ ap (λ (n : ℕ). let p : Point = record { state = y.state; time = n; place = x.place } in p) f
    ∙ ap (λ (n : ℕ). let p : Point = record { state = y.state; time = y.time; place = n } in p) g

pub one_jump : (m : PepaModel) (at : ℕ → ℕ) (p : Point) (t u : TakenJump) (q r : Point) → JumpsTo m at p t q → JumpsTo m at p u r → (t ≡ u) × (q ≡ r)
one_jump m at p t u q r a b =
    let em = one_choice_list m p.state b.entries a.entries b.listed a.listed in
    let e = one_exponential _ a.draw a.draw_used b.draw b.draw_used a.drawn b.drawn in
    let Used : ℕ → Type 0 = λ n. IsDrawBelow (choice_numbers at p n) (whole_of b.entries) b.choice b.choice_used in
    let Whole : List Entry → Type 0 = λ es. IsDrawBelow (choice_numbers at p a.draw_used) (whole_of es) b.choice b.choice_used in
    let w = one_below _ _ a.choice a.choice_used b.choice b.choice_used a.choosing (subst Whole em (subst Used (sym e.1) b.choosing)) in
    let Entries : List Entry → Type 0 = λ es. IsChosen (weights_in es) b.choice b.index in
    let Choice : ℕ → Type 0 = λ n. IsChosen (weights_in a.entries) n b.index in
    let ix = chosen_one (weights_in a.entries) a.choice a.index b.index a.chosen (subst Choice (sym w.0) (subst Entries em b.chosen)) in
    let lists = one_list m.bodies p.state a.transition_is.transitions b.transition_is.transitions a.transition_is.listed b.transition_is.listed in
    let some : Some a.transition ≡ Some b.transition =
    sym a.transition_is.at ∙ ap (λ (k : ℕ). slice_get a.transition_is.transitions k) ix ∙ ap (λ (ts : List StateTransition). slice_get ts b.index) lists ∙ b.transition_is.at in
    let mv : a.transition ≡ b.transition = cc in
    let time : q.time ≡ r.time = a.time_is ∙ ap (λ (es : List Entry). time_after es p.time a.draw) (sym em) ∙ ap (λ (d : ℕ). time_after b.entries p.time d) e.0 ∙ sym b.time_is in
    let state : q.state ≡ r.state = a.target_is ∙ ap (λ (x : StateTransition). x.target) mv ∙ sym b.target_is in
    let place : q.place ≡ r.place = omega (arith, a.place_is, b.place_is, e.1, w.1) in (
      a.taken_is ∙ ap (λ (s : ℕ). let k : TakenJump = record { from = p.state; signals = s; time = q.time } in k) (ap (λ (x : StateTransition). x.signals) mv)
          ∙ ap (λ (n : ℕ). let k : TakenJump = record { from = p.state; signals = b.transition.signals; time = n } in k) time ∙ sym b.taken_is,
      point_same q r state time place,
    )

-- ---- the stop

out_of_numbers : (at : ℕ → ℕ) (p : Point) (entries : List Entry) → IsOutOfNumbers at p entries → (draw used choice choice_used : ℕ)
    → IsTimeDraw at p draw used → IsDrawBelow (choice_numbers at p used) (whole_of entries) choice choice_used → ⊥
out_of_numbers at p entries (NoTime none) draw used choice cu ex b = not_both _ draw used ex none
out_of_numbers at p entries (NoChoice d u ex' fits none) draw used choice cu ex b =
    let e = one_exponential _ d u draw used ex' ex in
    let P : ℕ → Type 0 = λ n. IsDrawBelow (choice_numbers at p n) (whole_of entries) choice cu in
    none_below _ _ choice cu (subst P (sym e.1) b) none

-- the numbers don't decide, though the time is out of range
limit_or_late : (at : ℕ → ℕ) (p : Point) (xs ys : List Entry) (draw used : ℕ) → xs ≡ ys → IsOutOfNumbers at p xs → IsTimeDraw at p draw used → 2 ^ 63 ≤ time_after ys p.time draw → ⊥
limit_or_late at p xs ys draw used e (NoTime none) ex late = not_both _ draw used ex none
limit_or_late at p xs ys draw used e (NoChoice d u ex' fits none) ex late =
    let s = one_exponential _ d u draw used ex' ex in
    let same : time_after xs p.time d ≡ time_after ys p.time draw = ap (λ (n : ℕ). time_after xs p.time n) s.0 ∙ ap (λ (es : List Entry). time_after es p.time draw) e in
    omega (arith, fits, late, same)

-- a stop of the verdict
abbrev pub HasVerdict : PepaModel → State → Stop → Type 0
HasVerdict m q s = (verdict : StateStop) × IsWholeVerdict m.bodies q verdict × (s ≡ stop_of_verdict verdict)

-- a stop has one of three causes
data Cause (m : PepaModel) (at : ℕ → ℕ) (p : Point) (s : Stop) : Type 0 where
  Limit : s ≡ DrawLimit → StopsBy m at p DrawLimit → Cause m at p s
  Late : s ≡ TimeOverflow → StopsBy m at p TimeOverflow → Cause m at p s
  Verdict : HasVerdict m p.state s → Cause m at p s

cause_of : (m : PepaModel) (at : ℕ → ℕ) (p : Point) (s : Stop) → StopsBy m at p s → Cause m at p s
cause_of m at p DrawLimit h = Limit refl h
cause_of m at p TimeOverflow h = Late refl h
cause_of m at p Mixed h = Verdict h
cause_of m at p Overflow h = Verdict h
cause_of m at p ListTooLong h = Verdict h
cause_of m at p PassiveLeft h = Verdict h
cause_of m at p WeightOverflow h = Verdict h

module _ (m : PepaModel) (at : ℕ → ℕ) (p : Point) where
  limit_apart : StopsBy m at p DrawLimit → StopsBy m at p TimeOverflow → ⊥
  limit_apart h k = limit_or_late at p h.0 k.0 k.2.0 k.2.1.0 (one_choice_list m p.state h.0 k.0 h.1.0 k.1.0) h.2 k.2.1.1 k.2.1.2

  one_cause : (s t : Stop) → Cause m at p s → Cause m at p t → s ≡ t
  one_cause s t (Limit e h) (Limit f k) = e ∙ sym f
  one_cause s t (Late e h) (Late f k) = e ∙ sym f
  one_cause s t (Limit e h) (Late f k) = absurd (limit_apart h k)
  one_cause s t (Late e h) (Limit f k) = absurd (limit_apart k h)
  one_cause s t (Limit e h) (Verdict k) = absurd (list_or_stop m p.state k.0 h.0 k.1 h.1.0)
  one_cause s t (Late e h) (Verdict k) = absurd (list_or_stop m p.state k.0 h.0 k.1 h.1.0)
  one_cause s t (Verdict h) (Limit f k) = absurd (list_or_stop m p.state h.0 k.0 h.1 k.1.0)
  one_cause s t (Verdict h) (Late f k) = absurd (list_or_stop m p.state h.0 k.0 h.1 k.1.0)
  one_cause s t (Verdict h) (Verdict k) = h.2 ∙ ap stop_of_verdict (one_state_stop m p.state h.0 k.0 h.1 k.1) ∙ sym k.2

  -- a point has one stop
  pub one_stop : (s t : Stop) → StopsBy m at p s → StopsBy m at p t → s ≡ t
  one_stop s t h k = one_cause s t (cause_of m at p s h) (cause_of m at p t k)

  cause_or_none : (s : Stop) → Cause m at p s → IsChoiceList m p.state [] → ⊥
  cause_or_none s (Limit e h) l =
      let em = one_choice_list m p.state h.0 [] h.1.0 l in
      let long : length h.0 ≡ 0 = ap (λ (es : List Entry). length es) em in
      omega (arith, long, h.1.1)
  cause_or_none s (Late e h) l =
      let em = one_choice_list m p.state h.0 [] h.1.0 l in
      let long : length h.0 ≡ 0 = ap (λ (es : List Entry). length es) em in
      omega (arith, long, h.1.1)
  cause_or_none s (Verdict h) l = list_or_stop m p.state h.0 [] h.1 l

  -- and none at a deadlock
  pub stop_or_dead : (s : Stop) → StopsBy m at p s → IsChoiceList m p.state [] → ⊥
  stop_or_dead s h l = cause_or_none s (cause_of m at p s h) l

  cause_or_jump : (s : Stop) (t : TakenJump) (q : Point) → Cause m at p s → JumpsTo m at p t q → ⊥
  cause_or_jump s t q (Limit e h) j =
      let em = one_choice_list m p.state j.entries h.0 j.listed h.1.0 in
      let P : List Entry → Type 0 = λ es. IsDrawBelow (choice_numbers at p j.draw_used) (whole_of es) j.choice j.choice_used in
      out_of_numbers at p h.0 h.2 j.draw j.draw_used j.choice j.choice_used j.drawn (subst P em j.choosing)
  cause_or_jump s t q (Late e h) j =
      let em = one_choice_list m p.state j.entries h.0 j.listed h.1.0 in
      let d = one_exponential _ j.draw j.draw_used h.2.0 h.2.1.0 j.drawn h.2.1.1 in
      let time : q.time ≡ time_after h.0 p.time h.2.0 =
      j.time_is ∙ ap (λ (es : List Entry). time_after es p.time j.draw) em ∙ ap (λ (n : ℕ). time_after h.0 p.time n) d.0 in
      omega (arith, j.in_time, h.2.1.2, time)
  cause_or_jump s t q (Verdict h) j = list_or_stop m p.state h.0 j.entries h.1 j.listed

  -- and none where there is a jump
  pub stop_or_jump : (s : Stop) (t : TakenJump) (q : Point) → StopsBy m at p s → JumpsTo m at p t q → ⊥
  stop_or_jump s t q h j = cause_or_jump s t q (cause_of m at p s h) j

  -- a deadlock has no jump
  pub dead_or_jump : (t : TakenJump) (q : Point) → IsChoiceList m p.state [] → JumpsTo m at p t q → ⊥
  dead_or_jump t q l j =
      let em = one_choice_list m p.state j.entries [] j.listed l in
      let P : List Entry → Type 0 = λ es. j.index < length (weights_in es) in
      let bad : j.index < 0 = subst P em j.chosen.in_list in
      omega arith
