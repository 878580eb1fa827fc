-- What an event that happens is: a call begins, or a seat takes its next turn.
use Rattle.std.proofs.Common.{◌≡◌, ◌≤◌, ◌<◌, ℕ, ◌&&◌, Bool, true, false, cond, ◌⊎◌, inl, inr, ⊎_elim, List, [], ◌∷◌, ◌++◌, refl, sym, ap, ◌∙◌, subst, Option, Some, None, slice_get, slice_index, nat_lt, zero, suc, ◌==◌, append-nil, length, nat_le, ◌+◌, Result, Ok, Err, IfOk}
use Rattle.std.proofs.lemmas.Bool.{ltb-true, leb-true, and_parts, cond_both, true≢false}
use Rattle.intern_core.specs.declared.shape.Shape.{Shape}
use Rattle.intern_core.specs.declared.history.Key.{Key}
use Rattle.intern_core.specs.declared.history.Entry.{Entry}
use Rattle.intern_core.specs.declared.history.EntryWords.{EntryWords}
use Rattle.intern_core.specs.declared.seat.SeatWithOffer.{SeatWithOffer}
use Rattle.intern_core.specs.History.{Listing, listing_in, known, uses}
use Rattle.intern_core.specs.Blocks.{claimed_in, covers_in, IsLongerThan, HasListed}
use Rattle.intern_core.specs.Nexts.{MayBegin}
use Rattle.intern_core.specs.Pace.{key_in}
use Rattle.intern_core.proofs.Histories.{listing_known}
use Rattle.intern_core.proofs.ListSteps.{at_map}
use Rattle.intern_core.specs.declared.seat.Phase.{Phase}
use Rattle.intern_core.specs.declared.seat.Phase.TheVariants.{Idle, Claiming, StoringOne, StoringTwo, Linking, Swapping, AtOne, AtTwo, LookingOne, LookingTwo, MeasuringList, FindingEntry, ReadingOne, ReadingTwo, ReadingThree, Offering, ClaimingBlock, StoringWord, SwappingList}
use Rattle.intern_core.specs.declared.event.Act.{Act}
use Rattle.intern_core.specs.declared.event.Act.TheVariants.{Ask, Look, Claim, StoreOne, StoreTwo, LoadLink, LoadOne, LoadTwo, SwapLink, FetchLen, FetchEntry, Offer, ClaimBlock, StoreWord, LoadList, LoadWord, SwapList}
use Rattle.intern_core.specs.declared.event.Event.{Event}
use Rattle.intern_core.specs.declared.outcome.Outcome2.{Outcome2}
use Rattle.intern_core.specs.declared.outcome.CoreFault.{CoreFault}
use Rattle.intern_core.specs.declared.outcome.Outcome2.TheVariants.{Going}
use Rattle.intern_core.specs.Turns.{Turn, turn_in, next_place, first_phase}
use Rattle.intern_core.specs.Machine.{Machine, Happened, happened, begun, turn_taken, is_idle, is_next, is_known, is_longer, begins_if, after_event, after_of, after_act, after_all, after_first, next_turn, IsKept, IsOutcomeOf}
use Rattle.intern_core.proofs.Walks.{ask_reached}
use Rattle.intern_core.proofs.Machines.{got, kept_turns, kept_begun}

-- a call begins
pub record Began (m : Machine) (e : Event) (h : Happened) : Type 0 where
  pub phase : Phase
  pub offer : List EntryWords
  pub s : SeatWithOffer
  pub at : slice_get m.seats e.seat ≡ Some s
  pub may : MayBegin m s phase offer
  pub key : (key : Key) → e.act ≡ Ask key → phase ≡ first_phase s.seat.spare s.seat.marked key
  pub other : ((key : Key) → e.act ≡ Ask key → ⊥) → key_in phase ≡ None
  pub is : h ≡ happened (begun m e.seat s phase offer) Going

-- the seat takes its next turn
pub record Took (m : Machine) (e : Event) (h : Happened) : Type 0 where
  pub s : SeatWithOffer
  pub at : slice_get m.seats e.seat ≡ Some s
  pub other : (key : Key) → e.act ≡ Ask key → ⊥
  pub is : h ≡ turn_taken m e.seat s

abbrev pub Ways : Machine → Event → Happened → Type 0
Ways m e h = Began m e h ⊎ Took m e h

some_if : {A : Type 0} (t : Bool) (a b : A) → cond t (Some a) None ≡ Some b → (t ≡ true) × (b ≡ a)
some_if true a b e = (refl, (let same : a ≡ b = cc in sym same))
some_if false a b e = absurd cc

pub idle_is : (phase : Phase) → is_idle phase ≡ true → phase ≡ Idle
idle_is Idle e = refl
idle_is (Claiming key) e = absurd cc
idle_is (StoringOne key) e = absurd cc
idle_is (StoringTwo key) e = absurd cc
idle_is (Linking key from passed) e = absurd cc
idle_is (Swapping key from passed) e = absurd cc
idle_is (AtOne key node passed) e = absurd cc
idle_is (AtTwo key node passed) e = absurd cc
idle_is (LookingOne node) e = absurd cc
idle_is (LookingTwo node one) e = absurd cc
idle_is (MeasuringList number) e = absurd cc
idle_is (FindingEntry number at) e = absurd cc
idle_is (ReadingOne number at index) e = absurd cc
idle_is (ReadingTwo number at index one) e = absurd cc
idle_is (ReadingThree number at index one two) e = absurd cc
idle_is (Offering number len) e = absurd cc
idle_is (ClaimingBlock number len) e = absurd cc
idle_is (StoringWord number start len stored) e = absurd cc
idle_is (SwappingList number start len) e = absurd cc

-- a call for a key begins in a phase that holds no block
first_none : (spare : ℕ) (marked : Bool) (key : Key) → (claimed_in (first_phase spare marked key) ≡ 0) × ((index : ℕ) → covers_in (first_phase spare marked key) index ≡ 0)
first_none spare true key = (refl, (λ n. refl))
first_none zero false key = (refl, (λ n. refl))
first_none (suc n) false key = (refl, (λ n. refl))

first_listed : (shape : Shape) (words : List ℕ) (history : List Entry) (p : ℕ) (r : Option ℕ) (offer : List EntryWords) (spare : ℕ) (marked : Bool) (key : Key)
    → HasListed shape words history p r offer (first_phase spare marked key)
first_listed shape words history p r offer spare true key = tt
first_listed shape words history p r offer zero false key = tt
first_listed shape words history p r offer (suc n) false key = tt

longer_is : (at : ℕ) (o : Option Listing) → is_longer at o ≡ true → IsLongerThan at o
longer_is at None e = absurd (true≢false (sym e))
longer_is at (Some l) e = ltb-true at (length l.words) e

-- a call may begin
pub ask_may : (m : Machine) (s : SeatWithOffer) (key : Key) → s.seat.phase ≡ Idle → MayBegin m s (first_phase s.seat.spare s.seat.marked key) s.offer
ask_may m s key idle = record {
  idle = idle;
  none = (first_none s.seat.spare s.seat.marked key).0;
  free = (first_none s.seat.spare s.seat.marked key).1;
  reached = ask_reached m.shape m.words (known m.history) s.seat.spare s.seat.marked key;
  listed = first_listed m.shape m.words m.history s.seat.pass s.seat.refused s.offer s.seat.spare s.seat.marked key;
}

pub look_may : (m : Machine) (s : SeatWithOffer) (n : ℕ) → s.seat.phase ≡ Idle → is_known n m.history ≡ true → MayBegin m s (LookingOne n) s.offer
look_may m s n idle there = record { idle = idle; none = refl; free = λ i. refl; reached = ltb-true 0 (uses n (known m.history)) there; listed = tt }

pub measure_may : (m : Machine) (s : SeatWithOffer) (n : ℕ) → s.seat.phase ≡ Idle → is_known n m.history ≡ true → MayBegin m s (MeasuringList n) s.offer
measure_may m s n idle there = record { idle = idle; none = refl; free = λ i. refl; reached = ltb-true 0 (uses n (known m.history)) there; listed = tt }

pub find_may : (m : Machine) → IsKept m → (s : SeatWithOffer) (n at : ℕ) → s.seat.phase ≡ Idle → is_longer at (listing_in m.history n) ≡ true → MayBegin m s (FindingEntry n at) s.offer
find_may m k s n at idle there =
    let long = longer_is at (listing_in m.history n) there in
    record { idle = idle; none = refl; free = λ i. refl; reached = by (listing_in m.history n) refl long; listed = long } where
      by : (o : Option Listing) → listing_in m.history n ≡ o → IsLongerThan at o → 0 < uses n (known m.history)
      by None e h = absurd h
      by (Some l) e h = listing_known m.shape m.history k.kept.legal n l e

pub offer_may : (m : Machine) (s : SeatWithOffer) (n len : ℕ) (offer : List EntryWords) → s.seat.phase ≡ Idle → is_known n m.history ≡ true → length offer ≡ len → len ≤ 4096
    → MayBegin m s (Offering n len) offer
offer_may m s n len offer idle there size most =
    record { idle = idle; none = refl; free = λ i. refl; reached = ltb-true 0 (uses n (known m.history)) there; listed = (size, most) }

module _ (m : Machine) (k : IsKept m) (e : Event) (h : Happened) (s : SeatWithOffer) (at : slice_get m.seats e.seat ≡ Some s) where
  by_turn : (act : Act) → ((key : Key) → e.act ≡ Ask key → ⊥) → cond (is_next s.seat.phase act) (Some (turn_taken m e.seat s)) None ≡ Some h → Ways m e h
  by_turn act other is = let p = some_if (is_next s.seat.phase act) (turn_taken m e.seat s) h is in inr (record { s = s; at = at; other = other; is = p.1 })

  by_begin : (may : Bool) (phase : Phase) (offer : List EntryWords) → ((key : Key) → e.act ≡ Ask key → ⊥) → key_in phase ≡ None
      → (s.seat.phase ≡ Idle → may ≡ true → MayBegin m s phase offer) → begins_if may m e.seat s phase offer ≡ Some h → Ways m e h
  by_begin may phase offer other none begins is =
      let p = some_if (is_idle s.seat.phase && may) _ h is in
      let both = and_parts (is_idle s.seat.phase) may p.0 in
      inl (record {
        phase = phase;
        offer = offer;
        s = s;
        at = at;
        may = begins (idle_is s.seat.phase both.0) both.1;
        key = λ q a. absurd (other q a);
        other = λ o. none;
        is = p.1;
      })

  by_act : (act : Act) → e.act ≡ act → after_act m e.seat s act ≡ Some h → Ways m e h
  by_act (Ask key) same is =
      let p = some_if (is_idle s.seat.phase && true) _ h is in
      let both = and_parts (is_idle s.seat.phase) true p.0 in
      inl (record {
        phase = first_phase s.seat.spare s.seat.marked key;
        offer = s.offer;
        s = s;
        at = at;
        may = ask_may m s key (idle_is s.seat.phase both.0);
        key = λ q a. let one : Ask key ≡ Ask q = sym same ∙ a in let eq : key ≡ q = cc in ap (λ x. first_phase s.seat.spare s.seat.marked x) eq;
        other = λ o. absurd (o key same);
        is = p.1;
      })
  by_act (Look n) same is = by_begin (is_known n m.history) (LookingOne n) s.offer (λ q x. absurd cc) refl (look_may m s n) is
  by_act (FetchLen n) same is = by_begin (is_known n m.history) (MeasuringList n) s.offer (λ q x. absurd cc) refl (measure_may m s n) is
  by_act (FetchEntry n place) same is = by_begin (is_longer place (listing_in m.history n)) (FindingEntry n place) s.offer (λ q x. absurd cc) refl (find_may m k s n place) is
  by_act (Offer n ws) same is = by_begin (is_known n m.history && nat_le (length ws) 4096) (Offering n (length ws)) ws (λ q x. absurd cc) refl
      (λ idle both. let parts = and_parts (is_known n m.history) (nat_le (length ws) 4096) both in offer_may m s n (length ws) ws idle parts.0 refl (leb-true (length ws) 4096 parts.1)) is
  by_act Claim same is = by_turn Claim (λ q x. absurd cc) is
  by_act StoreOne same is = by_turn StoreOne (λ q x. absurd cc) is
  by_act StoreTwo same is = by_turn StoreTwo (λ q x. absurd cc) is
  by_act LoadLink same is = by_turn LoadLink (λ q x. absurd cc) is
  by_act LoadOne same is = by_turn LoadOne (λ q x. absurd cc) is
  by_act LoadTwo same is = by_turn LoadTwo (λ q x. absurd cc) is
  by_act SwapLink same is = by_turn SwapLink (λ q x. absurd cc) is
  by_act ClaimBlock same is = by_turn ClaimBlock (λ q x. absurd cc) is
  by_act StoreWord same is = by_turn StoreWord (λ q x. absurd cc) is
  by_act LoadList same is = by_turn LoadList (λ q x. absurd cc) is
  by_act LoadWord same is = by_turn LoadWord (λ q x. absurd cc) is
  by_act SwapList same is = by_turn SwapList (λ q x. absurd cc) is

-- an event that happens does so in one of these ways
pub ways : (m : Machine) (e : Event) (h : Happened) → IsKept m → after_event m e ≡ Some h → Ways m e h
ways m e h k is = by (slice_get m.seats e.seat) refl is where
  by : (o : Option SeatWithOffer) → slice_get m.seats e.seat ≡ o → after_of m e.seat o e.act ≡ Some h → Ways m e h
  by None at is' = absurd cc
  by (Some s) at is' = by_act m k e h s at e.act refl is'

-- each event keeps what is kept
pub kept_event : (m : Machine) (e : Event) (h : Happened) → IsKept m → after_event m e ≡ Some h → IsKept h.machine
kept_event m e h k is = ⊎_elim
    (λ (a : Began m e h). subst (λ (x : Happened). IsKept x.machine) (sym a.is) (kept_begun m k e.seat a.s a.phase a.offer a.at a.may))
    (λ (t : Took m e h). subst (λ (x : Happened). IsKept x.machine) (sym t.is) (kept_turns m k e.seat t.s t.at))
    (ways m e h k is)

-- and so do all
pub kept_all : (m n : Machine) (es : List Event) → IsKept m → after_all m es ≡ Some n → IsKept n
kept_all m n [] k is = let same : m ≡ n = cc in subst IsKept same k
kept_all m n (e ∷ es) k is = by (after_event m e) refl is (λ h now rest. kept_all h.machine n es now rest) where
  by : (o : Option Happened) → after_event m e ≡ o → after_first o (λ x. after_all x es) ≡ Some n
      → ((h : Happened) → IsKept h.machine → after_all h.machine es ≡ Some n → IsKept n) → IsKept n
  by None at is' rest = absurd cc
  by (Some h) at is' rest = rest h (kept_event m e h k at) is'

-- the outcome of a turn is that of the entry which it makes
outcome_of_turn : (shape : Shape) (offer : List EntryWords) (p : ℕ) (r : Option ℕ) (spare : ℕ) (marked : Bool) (phase : Phase) (v : ℕ)
    → IsOutcomeOf p (turn_in shape offer p r spare marked phase v).made (turn_in shape offer p r spare marked phase v).outcome
outcome_of_turn shape offer p r spare marked Idle v = refl
outcome_of_turn shape offer p r spare marked (Claiming key) v = cond_both (nat_lt v shape.nodes) _ _ (λ (t : Turn). IsOutcomeOf p t.made t.outcome) (λ h. refl) (λ h. refl)
outcome_of_turn shape offer p r spare marked (StoringOne key) v = refl
outcome_of_turn shape offer p r spare marked (StoringTwo key) v = refl
outcome_of_turn shape offer p r spare true (Linking key from passed) zero = (key, refl)
outcome_of_turn shape offer p r spare false (Linking key from passed) zero = refl
outcome_of_turn shape offer p r spare true (Linking key from passed) (suc n) = refl
outcome_of_turn shape offer p r spare false (Linking key from passed) (suc n) = refl
outcome_of_turn shape offer p r spare marked (Swapping key from passed) zero = (key, refl)
outcome_of_turn shape offer p r spare marked (Swapping key from passed) (suc n) = refl
outcome_of_turn shape offer p r spare marked (AtOne key node passed) v = refl
outcome_of_turn shape offer p r spare marked (AtTwo key node passed) v =
    cond_both (v == key.two) _ _ (λ (t : Turn). IsOutcomeOf p t.made t.outcome) (λ h. (key, refl)) (λ h. refl)
outcome_of_turn shape offer p r spare marked (LookingOne node) v = refl
outcome_of_turn shape offer p r spare marked (LookingTwo node one) v = refl
outcome_of_turn shape offer p r spare marked (MeasuringList number) v = refl
outcome_of_turn shape offer p r spare marked (FindingEntry number at) v = refl
outcome_of_turn shape offer p r spare marked (ReadingOne number at index) v = refl
outcome_of_turn shape offer p r spare marked (ReadingTwo number at index one) v = refl
outcome_of_turn shape offer p r spare marked (ReadingThree number at index one two) v = refl
outcome_of_turn shape offer p r spare marked (StoringWord number start len stored) v = refl
outcome_of_turn shape offer p None spare marked (Offering number len) zero = refl
outcome_of_turn shape offer p (Some q) spare marked (Offering number len) zero = refl
outcome_of_turn shape offer p None spare marked (Offering number len) (suc n) = inl refl
outcome_of_turn shape offer p (Some q) spare marked (Offering number len) (suc n) = inl refl
outcome_of_turn shape offer p r spare marked (ClaimingBlock number len) v =
    cond_both (nat_le (v + len) shape.entries) _ _ (λ (t : Turn). IsOutcomeOf p t.made t.outcome) (λ h. refl) (λ h. refl)
outcome_of_turn shape offer p r spare marked (SwappingList number start len) zero = (number, offer, refl)
outcome_of_turn shape offer p r spare marked (SwappingList number start len) (suc n) = inr (number, len, refl)

-- an event's outcome is that of the entry which it makes
pub outcome_is : (m : Machine) (e : Event) (h : Happened) → IsKept m → after_event m e ≡ Some h
    → (made : List Entry) × (h.machine.history ≡ m.history ++ made) × IsOutcomeOf e.seat made h.outcome
outcome_is m e h k is = ⊎_elim
    (λ (a : Began m e h). quiet (ap (λ (x : Happened). x.machine.history) a.is) (ap (λ (x : Happened). x.outcome) a.is))
    (λ (t : Took m e h). (
      (next_turn m t.s).made,
      ap (λ (x : Happened). x.machine.history) t.is,
      subst (λ (x : Happened). IsOutcomeOf e.seat (next_turn m t.s).made x.outcome) (sym t.is)
          (subst (λ p. IsOutcomeOf p (next_turn m t.s).made (next_turn m t.s).outcome)
          (k.numbered e.seat t.s.seat (at_map (λ (x : SeatWithOffer). x.seat) m.seats e.seat t.s (got m.seats e.seat t.s t.at)))
          (outcome_of_turn m.shape t.s.offer t.s.seat.pass t.s.seat.refused t.s.seat.spare t.s.seat.marked t.s.seat.phase (slice_index m.words (next_place m.shape t.s.seat)))),
    ))
    (ways m e h k is) where
      quiet : h.machine.history ≡ m.history → h.outcome ≡ Going → (made : List Entry) × (h.machine.history ≡ m.history ++ made) × IsOutcomeOf e.seat made h.outcome
      quiet same going = ([], same ∙ sym (append-nil m.history), subst (IsOutcomeOf e.seat []) (sym going) refl)

pub entry_of_ok : (m n : Machine) (e : Event) → IsKept m → (r : Result Outcome2 CoreFault) → IfOk r (λ o. after_event m e ≡ Some (happened n o))
    → IfOk r (λ o. (made : List Entry) × (n.history ≡ m.history ++ made) × IsOutcomeOf e.seat made o)
entry_of_ok m n e k (Ok o) is = outcome_is m e (happened n o) k is
entry_of_ok m n e k (Err fault) is = tt
