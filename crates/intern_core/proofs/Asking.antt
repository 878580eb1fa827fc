-- A call that is answered took at most four events for each node known in its bucket, and three more.
use Rattle.std.proofs.Common.{◌≡◌, nat_lt, nat_le, ◌≢◌, ℕ, zero, suc, ◌+◌, ◌*◌, ◌≤◌, ◌==◌, Bool, true, false, cond, ◌⊎◌, inl, inr, ⊎_elim, List, [], ◌∷◌, ◌++◌, length, refl, sym, ap, ◌∙◌, subst, arith, Option, Some, None, slice_get, slice_set, slice_index, length-append}
use Rattle.std.proofs.lemmas.Bool.{cond_both, cases_eq, ne_eqb, eq-eqb}
use Rattle.std.proofs.lemmas.List.Elements.{filter-append}
use Rattle.intern_core.specs.declared.shape.Shape.{Shape}
use Rattle.intern_core.specs.declared.history.Key.{Key}
use Rattle.intern_core.specs.declared.history.Reply.{Reply}
use Rattle.intern_core.specs.declared.history.Entry.{Entry}
use Rattle.intern_core.specs.declared.history.Entry.TheVariants.{Call}
use Rattle.intern_core.specs.declared.history.EntryWords.{EntryWords}
use Rattle.intern_core.specs.declared.seat.SeatWithOffer.{SeatWithOffer}
use Rattle.intern_core.proofs.ListSteps.{at_map}
use Rattle.intern_core.specs.declared.seat.Phase.{Phase}
use Rattle.intern_core.specs.declared.seat.Phase.TheVariants.{Idle, Claiming, StoringOne, StoringTwo, Linking, Swapping, AtOne, AtTwo, LookingOne, LookingTwo, MeasuringList, FindingEntry, ReadingOne, ReadingTwo, ReadingThree, Offering, ClaimingBlock, StoringWord, SwappingList}
use Rattle.intern_core.specs.declared.event.Act.TheVariants.{Ask}
use Rattle.intern_core.specs.declared.event.Event.{Event}
use Rattle.intern_core.specs.declared.outcome.Outcome2.TheVariants.{Going, Answered}
use Rattle.intern_core.specs.History.{one_if}
use Rattle.intern_core.specs.Kept.{IsShape}
use Rattle.intern_core.specs.Turns.{Turn, seat, turn_in, next_place, first_phase}
use Rattle.intern_core.specs.Machine.{Machine, Happened, happened, with_offer, seats_of, fresh, turn_taken, next_turn, after_event, after_all, after_first, IsKept}
use Rattle.intern_core.specs.Pace.{key_in, answer_in, pace, own_events, known_beside, asks, BeginsNoAsk, AsksTakeAtMost}
use Rattle.intern_core.proofs.Turning.{pace_fits}
use Rattle.intern_core.proofs.Pacing.{Ends, GoesOn, turn_goes, answered_in_time}
use Rattle.intern_core.proofs.Machines.{got, kept_fresh, after_all-append, then_all}
use Rattle.intern_core.proofs.Happening.{Began, Took, ways, kept_event, kept_all}

-- a seat's call for a key has taken so many events, or the seat has no call for a key any more
pub record Calling (m : Machine) (i : ℕ) (key : Key) (count : ℕ) : Type 0 where
  pub s : SeatWithOffer
  pub at : slice_get m.seats i ≡ Some s
  pub so_far : ((key_in s.seat.phase ≡ Some key) × (count ≤ pace s.seat.marked s.seat.phase)) ⊎ (key_in s.seat.phase ≡ None)

set_here : {A : Type 0} (xs : List A) (i : ℕ) (x y : A) → slice_get xs i ≡ Some x → slice_get (slice_set xs i y) i ≡ Some y
set_here [] i x y at = absurd cc
set_here (z ∷ xs) zero x y at = refl
set_here (z ∷ xs) (suc i) x y at = set_here xs i x y at

set_there : {A : Type 0} (xs : List A) (i j : ℕ) (y : A) → i ≢ j → slice_get (slice_set xs i y) j ≡ slice_get xs j
set_there [] i j y ne = refl
set_there (z ∷ xs) zero zero y ne = absurd (ne refl)
set_there (z ∷ xs) zero (suc j) y ne = refl
set_there (z ∷ xs) (suc i) zero y ne = refl
set_there (z ∷ xs) (suc i) (suc j) y ne = set_there xs i j y (λ e. ne (ap suc e))

-- a seat without a call for a key gets none by a turn, and is answered nothing
no_key : (shape : Shape) (offer : List EntryWords) (p : ℕ) (r : Option ℕ) (spare : ℕ) (marked : Bool) (phase : Phase) (v : ℕ) → key_in phase ≡ None
    → (key_in (turn_in shape offer p r spare marked phase v).seat.phase ≡ None) × ((q : Reply) → (turn_in shape offer p r spare marked phase v).outcome ≡ Answered q → ⊥)
no_key shape offer p r spare marked Idle v none = (refl, (λ q e. absurd cc))
no_key shape offer p r spare marked (LookingOne node) v none = (refl, (λ q e. absurd cc))
no_key shape offer p r spare marked (LookingTwo node one) v none = (refl, (λ q e. absurd cc))
no_key shape offer p r spare marked (Claiming key) v none = absurd cc
no_key shape offer p r spare marked (StoringOne key) v none = absurd cc
no_key shape offer p r spare marked (StoringTwo key) v none = absurd cc
no_key shape offer p r spare marked (Linking key from passed) v none = absurd cc
no_key shape offer p r spare marked (Swapping key from passed) v none = absurd cc
no_key shape offer p r spare marked (AtOne key node passed) v none = absurd cc
no_key shape offer p r spare marked (AtTwo key node passed) v none = absurd cc
no_key shape offer p r spare marked (MeasuringList number) v none = (refl, (λ q e. absurd cc))
no_key shape offer p r spare marked (FindingEntry number at) v none = (refl, (λ q e. absurd cc))
no_key shape offer p r spare marked (ReadingOne number at index) v none = (refl, (λ q e. absurd cc))
no_key shape offer p r spare marked (ReadingTwo number at index one) v none = (refl, (λ q e. absurd cc))
no_key shape offer p r spare marked (ReadingThree number at index one two) v none = (refl, (λ q e. absurd cc))
no_key shape offer p r spare marked (StoringWord number start len stored) v none = (
  cond_both (nat_lt (stored + 1) (3 * len)) _ _ (λ (ph : Phase). key_in ph ≡ None) (λ h. refl) (λ h. refl),
  (λ q e. absurd cc),
)
no_key shape offer p None spare marked (Offering number len) zero none = (refl, (λ q e. absurd cc))
no_key shape offer p (Some o) spare marked (Offering number len) zero none = (refl, (λ q e. absurd cc))
no_key shape offer p None spare marked (Offering number len) (suc n) none = (refl, (λ q e. absurd cc))
no_key shape offer p (Some o) spare marked (Offering number len) (suc n) none = (refl, (λ q e. absurd cc))
no_key shape offer p r spare marked (ClaimingBlock number len) v none =
    cond_both (nat_le (v + len) shape.entries) _ _ (λ (t : Turn). (key_in t.seat.phase ≡ None) × ((q : Reply) → t.outcome ≡ Answered q → ⊥))
    (λ h. (cond_both (nat_lt 0 (3 * len)) _ _ (λ (ph : Phase). key_in ph ≡ None) (λ g. refl) (λ g. refl), (λ q e. absurd cc)))
    (λ h. (refl, (λ q e. absurd cc)))
no_key shape offer p r spare marked (SwappingList number start len) zero none = (refl, (λ q e. absurd cc))
no_key shape offer p r spare marked (SwappingList number start len) (suc n) none = (refl, (λ q e. absurd cc))

module _ (i : ℕ) (key : Key) where
  -- a turn of the seat's call ends it, or takes it on by one event at least
  turn_here : (m : Machine) → IsKept m → (s : SeatWithOffer) → slice_get m.seats i ≡ Some s → key_in s.seat.phase ≡ Some key
      → Ends s.seat.pass s.seat.spare s.seat.phase key (next_turn m s) ⊎ GoesOn s.seat.spare s.seat.marked s.seat.phase key (next_turn m s)
  turn_here m k s at call =
      let q = s.seat in
      let fits = pace_fits m.shape m.words (seats_of m.seats) m.history k.kept i q.pass q.refused q.spare q.marked q.phase (at_map (λ (x : SeatWithOffer). x.seat) m.seats i s (got m.seats i s at)) in
      turn_goes m.shape s.offer q.pass q.refused q.spare key q.marked q.phase (slice_index m.words (next_place m.shape q)) call (fits.2 key) (fits.1 key)

  -- one event more
  calling_event : (m : Machine) (e : Event) (h : Happened) (count : ℕ) → IsKept m → Calling m i key count → after_event m e ≡ Some h
      → (e.seat ≡ i → (k : Key) → e.act ≡ Ask k → ⊥) → Calling h.machine i key (one_if (e.seat == i) + count)
  calling_event m e h count k c is once = ⊎_elim
      (λ (a : Began m e h). ⊎_elim
      (λ here. own a.s (with_offer (seat a.s.seat.pass a.s.seat.refused a.s.seat.spare a.s.seat.marked a.phase) a.offer) (ap (λ (x : Happened). x.machine.seats) a.is) here a.at (inr (a.other (once here))))
      (λ ne. other _ (ap (λ (x : Happened). x.machine.seats) a.is) ne) (cases_eq e.seat i))
      (λ (t : Took m e h). ⊎_elim
      (λ here. own t.s (with_offer (next_turn m t.s).seat t.s.offer) (ap (λ (x : Happened). x.machine.seats) t.is) here t.at (taking t here))
      (λ ne. other _ (ap (λ (x : Happened). x.machine.seats) t.is) ne) (cases_eq e.seat i))
      (ways m e h k is) where
        other : (new : SeatWithOffer) → h.machine.seats ≡ slice_set m.seats e.seat new → e.seat ≢ i → Calling h.machine i key (one_if (e.seat == i) + count)
        other new seats ne =
            let none : one_if (e.seat == i) ≡ 0 = ap one_if (ne_eqb e.seat i ne) in
            record {
              s = c.s;
              at = ap (λ l. slice_get l i) seats ∙ set_there m.seats e.seat i new ne ∙ c.at;
              so_far = ⊎_elim (λ (h : (key_in c.s.seat.phase ≡ Some key) × (count ≤ pace c.s.seat.marked c.s.seat.phase)). let low = h.1 in inl (h.0, omega arith)) (λ h. inr h) c.so_far;
            }

        own : (s new : SeatWithOffer) → h.machine.seats ≡ slice_set m.seats e.seat new → e.seat ≡ i → slice_get m.seats e.seat ≡ Some s
            → ((key_in new.seat.phase ≡ Some key) × (1 + count ≤ pace new.seat.marked new.seat.phase)) ⊎ (key_in new.seat.phase ≡ None)
            → Calling h.machine i key (one_if (e.seat == i) + count)
        own s new seats here at so_far =
            let one : one_if (e.seat == i) ≡ 1 = ap one_if (eq-eqb e.seat i here) in
            record {
              s = new;
              at = ap (λ l. slice_get l i) seats ∙ subst (λ j. slice_get (slice_set m.seats e.seat new) j ≡ Some new) here (set_here m.seats e.seat s new at);
              so_far = ⊎_elim (λ (h : (key_in new.seat.phase ≡ Some key) × (1 + count ≤ pace new.seat.marked new.seat.phase)). let low = h.1 in inl (h.0, omega arith)) (λ h. inr h) so_far;
            }

        same_seat : (t : Took m e h) → e.seat ≡ i → t.s ≡ c.s
        same_seat t here = let both : Some t.s ≡ Some c.s = sym t.at ∙ ap (slice_get m.seats) here ∙ c.at in cc

        taking : (t : Took m e h) → e.seat ≡ i
            → ((key_in (next_turn m t.s).seat.phase ≡ Some key) × (1 + count ≤ pace (next_turn m t.s).seat.marked (next_turn m t.s).seat.phase)) ⊎ (key_in (next_turn m t.s).seat.phase ≡ None)
        taking t here =
            subst (λ (s : SeatWithOffer). ((key_in (next_turn m s).seat.phase ≡ Some key) × (1 + count ≤ pace (next_turn m s).seat.marked (next_turn m s).seat.phase)) ⊎ (key_in (next_turn m s).seat.phase ≡ None))
            (sym (same_seat t here))
            (⊎_elim
            (λ (h : (key_in c.s.seat.phase ≡ Some key) × (count ≤ pace c.s.seat.marked c.s.seat.phase)). ⊎_elim
            (λ (d : Ends c.s.seat.pass c.s.seat.spare c.s.seat.phase key (next_turn m c.s)). inr (ap key_in d.idle))
            (λ (g : GoesOn c.s.seat.spare c.s.seat.marked c.s.seat.phase key (next_turn m c.s)). let low = h.1 in let more = g.later in inl (g.key, omega arith))
            (turn_here m k c.s c.at h.0))
            (λ none. inr (no_key m.shape c.s.offer c.s.seat.pass c.s.seat.refused c.s.seat.spare c.s.seat.marked c.s.seat.phase (slice_index m.words (next_place m.shape c.s.seat)) none).0) c.so_far)

  own_more : (e : Event) (es : List Event) → length (own_events i (e ∷ es)) ≡ one_if (e.seat == i) + length (own_events i es)
  own_more e es = by (e.seat == i) where
    by : (t : Bool) → length (cond t (e ∷ own_events i es) (own_events i es)) ≡ one_if t + length (own_events i es)
    by true = omega arith
    by false = omega arith

  not_first : (e : Event) (es : List Event) → BeginsNoAsk i (e ∷ es) → e.seat ≡ i → (k : Key) → e.act ≡ Ask k → ⊥
  not_first e es once here k act =
      let is : e ≡ asks i k = (λ j. record { seat = here j; act = act j }) in
      once [] es k (ap (λ x. x ∷ es) is)

  rest_once : (e : Event) (es : List Event) → BeginsNoAsk i (e ∷ es) → BeginsNoAsk i es
  rest_once e es once first rest k is = once (e ∷ first) rest k (ap (λ l. e ∷ l) is)

  -- all events between
  calling_all : (m n : Machine) (es : List Event) (count : ℕ) → IsKept m → Calling m i key count → after_all m es ≡ Some n → BeginsNoAsk i es
      → Calling n i key (length (own_events i es) + count)
  calling_all m n [] count k c is once = let same : m ≡ n = cc in
      let none : count ≡ length (own_events i []) + count = omega arith in
      subst (λ x. Calling x i key (length (own_events i []) + count)) same (subst (Calling m i key) none c)
  calling_all m n (e ∷ es) count k c is once = by (after_event m e) refl is (λ h kept now rest. calling_all h.machine n es (one_if (e.seat == i) + count) kept now rest (rest_once e es once)) where
    by : (o : Option Happened) → after_event m e ≡ o → after_first o (λ x. after_all x es) ≡ Some n
        → ((h : Happened) → IsKept h.machine → Calling h.machine i key (one_if (e.seat == i) + count) → after_all h.machine es ≡ Some n
        → Calling n i key (length (own_events i es) + (one_if (e.seat == i) + count)))
        → Calling n i key (length (own_events i (e ∷ es)) + count)
    by None at is' rest = absurd cc
    by (Some h) at is' rest =
        let same : length (own_events i es) + (one_if (e.seat == i) + count) ≡ length (own_events i (e ∷ es)) + count = omega (arith, own_more e es) in
        subst (Calling n i key) same (rest h (kept_event m e h k at) (calling_event m e h count k c at (not_first e es once)) is')

  key_first : (k : Key) (spare : ℕ) (marked : Bool) → k ≡ key → (key_in (first_phase spare marked k) ≡ Some key) × (0 ≤ pace marked (first_phase spare marked k))
  key_first k spare true e = (ap Some e, omega arith)
  key_first k zero false e = (ap Some e, omega arith)
  key_first k (suc n) false e = (ap Some e, omega arith)

  -- the event that asks
  calling_asked : (m : Machine) (h : Happened) → IsKept m → after_event m (asks i key) ≡ Some h → Calling h.machine i key 0
  calling_asked m h k is = ⊎_elim
      (λ (a : Began m (asks i key) h).
      let q = a.s.seat in
      subst (λ (x : Happened). Calling x.machine i key 0) (sym a.is) (record {
        s = with_offer (seat q.pass q.refused q.spare q.marked a.phase) a.offer;
        at = set_here m.seats i a.s _ a.at;
        so_far = inl (subst (λ ph. (key_in ph ≡ Some key) × (0 ≤ pace q.marked ph)) (sym (a.key key refl)) (key_first key q.spare q.marked refl));
      }))
      (λ (t : Took m (asks i key) h). absurd (t.other key refl))
      (ways m (asks i key) h k is)

  -- the event that answers
  calling_answered : (m n : Machine) (last : Event) (reply : Reply) (count : ℕ) → IsKept m → Calling m i key count → last.seat ≡ i
      → after_event m last ≡ Some (happened n (Answered reply)) → count + 1 ≤ 4 * known_beside n.shape n.history key + 3
  calling_answered m n last reply count k c here is = ⊎_elim
      (λ (a : Began m last (happened n (Answered reply))). let no_answer : Answered reply ≡ Going = ap (λ (x : Happened). x.outcome) a.is in absurd cc)
      (λ (t : Took m last (happened n (Answered reply))). took t)
      (ways m last (happened n (Answered reply)) k is) where
        took : Took m last (happened n (Answered reply)) → count + 1 ≤ 4 * known_beside n.shape n.history key + 3
        took t =
            let both : Some t.s ≡ Some c.s = sym t.at ∙ ap (slice_get m.seats) here ∙ c.at in
            let same : t.s ≡ c.s = cc in
            let q = c.s.seat in
            let now : n ≡ (turn_taken m last.seat c.s).machine = ap (λ (x : Happened). x.machine) t.is ∙ ap (λ (s : SeatWithOffer). (turn_taken m last.seat s).machine) same in
            let told : Answered reply ≡ (next_turn m c.s).outcome = ap (λ (x : Happened). x.outcome) t.is ∙ ap (λ (s : SeatWithOffer). (next_turn m s).outcome) same in
            ⊎_elim
            (λ (h : (key_in q.phase ≡ Some key) × (count ≤ pace q.marked q.phase)). ⊎_elim
            (λ (d : Ends q.pass q.spare q.phase key (next_turn m c.s)).
            let time = answered_in_time m.shape m.words (seats_of m.seats) m.history k.kept i c.s.offer q.pass q.refused q.spare q.marked q.phase key
            (at_map (λ (x : SeatWithOffer). x.seat) m.seats i c.s (got m.seats i c.s c.at)) h.0 d.idle in
            let size : known_beside n.shape n.history key ≡ known_beside m.shape (m.history ++ Call q.pass key (answer_in q.spare q.phase) ∷ []) key =
            ap (λ (x : Machine). known_beside x.shape x.history key) now ∙ ap (λ (l : List Entry). known_beside m.shape (m.history ++ l) key) d.made in
            let low = h.1 in
            omega arith)
            (λ (g : GoesOn q.spare q.marked q.phase key (next_turn m c.s)). let going : Answered reply ≡ Going = told ∙ g.outcome in absurd cc)
            (turn_here m k c.s c.at h.0))
            (λ none. absurd ((no_key m.shape c.s.offer q.pass q.refused q.spare q.marked q.phase (slice_index m.words (next_place m.shape q)) none).1 reply (sym told)))
            c.so_far

-- the shape stays
pub shape_stays : (m : Machine) (e : Event) (h : Happened) → IsKept m → after_event m e ≡ Some h → h.machine.shape ≡ m.shape
shape_stays m e h k is = ⊎_elim (λ (a : Began m e h). ap (λ (x : Happened). x.machine.shape) a.is) (λ (t : Took m e h). ap (λ (x : Happened). x.machine.shape) t.is)
    (ways m e h k is)

pub shape_all : (m n : Machine) (es : List Event) → IsKept m → after_all m es ≡ Some n → n.shape ≡ m.shape
shape_all m n [] k is = let same : m ≡ n = cc in ap (λ (x : Machine). x.shape) (sym same)
shape_all m n (e ∷ es) k is = by (after_event m e) refl is (λ h kept rest. shape_all h.machine n es kept rest) where
  by : (o : Option Happened) → after_event m e ≡ o → after_first o (λ x. after_all x es) ≡ Some n
      → ((h : Happened) → IsKept h.machine → after_all h.machine es ≡ Some n → n.shape ≡ h.machine.shape) → n.shape ≡ m.shape
  by None at is' rest = absurd cc
  by (Some h) at is' rest = rest h (kept_event m e h k at) is' ∙ shape_stays m e h k at

module _ (shape : Shape) (ranges : IsShape shape) where
  pub asks_take_at_most : (events : List Event) → AsksTakeAtMost (λ k. 4 * k + 3) shape events
  asks_take_at_most events before between rest i key last m is a =
      let split : then_all (after_all (fresh shape) before) (asks i key ∷ between) ≡ Some a.earlier = sym (after_all-append (fresh shape) before (asks i key ∷ between)) ∙ a.runs in
      by_front (after_all (fresh shape) before) refl split where
        counted : (c : ℕ) → length (own_events i between) + 0 ≡ c → length (own_events i (between ++ last ∷ [])) ≡ c + 1
        counted c e =
            let parts = ap (λ (l : List Event). length l) (filter-append (λ (x : Event). x.seat == i) between (last ∷ [])) in
            let one : one_if (last.seat == i) ≡ 1 = ap one_if (eq-eqb last.seat i a.own) in
            omega (arith, length-append (own_events i between) (own_events i (last ∷ [])), own_more i key last [])

        by_ask : (m0 : Machine) → IsKept m0 → m0.shape ≡ shape → (o : Option Happened) → after_event m0 (asks i key) ≡ o → after_first o (λ n. after_all n between) ≡ Some a.earlier
            → length (own_events i (between ++ last ∷ [])) ≤ 4 * known_beside shape m.history key + 3
        by_ask m0 k same None at rest' = absurd cc
        by_ask m0 k same (Some h) at rest' =
            let kept = kept_event m0 (asks i key) h k at in
            let later = kept_all h.machine a.earlier between kept rest' in
            let c = calling_all i key h.machine a.earlier between 0 kept (calling_asked i key m0 h k at) rest' a.once in
            let most = calling_answered i key a.earlier m last a.reply (length (own_events i between) + 0) later c a.own a.answered in
            let shape_is : m.shape ≡ shape = shape_stays a.earlier last (happened m (Answered a.reply)) later a.answered ∙ shape_all h.machine a.earlier between kept rest' ∙ shape_stays m0 (asks i key) h k at ∙ same in
            let size = ap (λ s. known_beside s m.history key) shape_is in
            let count = counted (length (own_events i between) + 0) refl in
            omega arith

        by_front : (o : Option Machine) → after_all (fresh shape) before ≡ o → then_all o (asks i key ∷ between) ≡ Some a.earlier
            → length (own_events i (between ++ last ∷ [])) ≤ 4 * known_beside shape m.history key + 3
        by_front None at rest' = absurd cc
        by_front (Some m0) at rest' =
            by_ask m0 (kept_all (fresh shape) m0 before (kept_fresh shape ranges) at) (shape_all (fresh shape) m0 before (kept_fresh shape ranges) at) (after_event m0 (asks i key)) refl rest'
