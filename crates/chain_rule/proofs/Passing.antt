-- A pass has its next word, and is a pass again after its turn.
use Rattle.std.proofs.Common.{◌≡◌, ℕ, zero, suc, ◌<◌, ◌≤◌, inl, inr, Bool, true, false, List, [], ◌++◌, set, refl, sym, ap, ◌∙◌, subst, arith, slice_index, Option, Some, None}
use mathlib.Core.Option.{some}
use lib.ListN.{get_elem?}
use Rattle.std.proofs.lemmas.Bool.{false≢true}
use Rattle.atomic_table.specs.Table.{Me}
use Rattle.intern_core.specs.declared.shape.Shape.{Shape}
use Rattle.intern_core.specs.declared.history.Key.{Key}
use Rattle.intern_core.specs.declared.history.Entry.{Entry}
use Rattle.intern_core.specs.declared.history.EntryWords.{EntryWords}
use Rattle.intern_core.specs.declared.seat.Seat.{Seat}
use Rattle.intern_core.specs.declared.seat.SeatWithOffer.{SeatWithOffer}
use Rattle.intern_core.specs.declared.seat.Phase.{Phase}
use Rattle.intern_core.specs.declared.seat.Phase.TheVariants.{Idle, Claiming, StoringOne, StoringTwo, Linking, Swapping, AtOne, AtTwo, LookingOne, LookingTwo, MeasuringList, FindingEntry, ReadingOne, ReadingTwo, ReadingThree, Offering, ClaimingBlock, StoringWord, SwappingList}
use Rattle.intern_core.specs.Layout.{word_count}
use Rattle.intern_core.specs.History.{known, uses, IsLegal, listing_in}
use Rattle.intern_core.specs.Turns.{seat, next_place, turn_of, turn_in, first_phase, FitsTurn}
use Rattle.intern_core.specs.Kept.{Kept, IsShape}
use Rattle.intern_core.specs.Blocks.{KeptLists}
use Rattle.intern_core.specs.Machine.{with_offer, seats_of}
use Rattle.intern_core.proofs.Chains.{bucket_small}
use Rattle.intern_core.proofs.Histories.{listing_known}
use Rattle.intern_core.proofs.ListSteps.{at_map}
use Rattle.intern_core.proofs.BothTurns.{both_turn}
use Rattle.intern_core.proofs.Fitting.{both_fit}
use Rattle.intern_core.proofs.Steps.{known_small, spare_alone}
use Rattle.intern_core.proofs.Turning.{pace_fits}
use Rattle.chain_rule.specs.declared.meaning.Setting.{Setting}
use Rattle.chain_rule.specs.declared.view.View.{View}
use Rattle.chain_rule.specs.Rule.{own, MeansAfter, no_room}
use Rattle.chain_rule.specs.Told.{seat_begun, phase_begun, offer_begun, MayBeginCall, Turned, Finds, IsOfferedWord}
use Rattle.chain_rule.specs.Pacing.{IsPaced, FitsListWord}
use Rattle.chain_rule.specs.Splits.{meets, giver}
use Rattle.chain_rule.specs.Passes.{IsPass, IsPassOf}
use Rattle.chain_rule.proofs.Views.{at_again, longer_is}

block_of : (shape : Shape) (offer : List EntryWords) (phase : Phase) (v : ℕ) → FitsTurn shape offer phase v → FitsListWord phase
block_of shape offer (SwappingList number start len) v fits = fits
block_of shape offer other v fits = tt

-- a spare is a number of the table
spare_low : (shape : Shape) (words : List ℕ) (seats : List Seat) (history : List Entry) → Kept shape words seats history → (i : ℕ) (s : Seat) → get_elem? seats i ≡ some s → s.spare ≤ shape.nodes
spare_low shape words seats history k i s at = by s.spare refl where
  by : (n : ℕ) → s.spare ≡ n → s.spare ≤ shape.nodes
  by zero e = omega arith
  by (suc n) e = (spare_alone shape words seats history k i s at (omega arith)).0

first_within : (shape : Shape) → IsShape shape → (p : ℕ) (r : Option ℕ) (spare : ℕ) (marked : Bool) (key : Key) → spare ≤ shape.nodes
    → next_place shape (seat p r spare marked (first_phase spare marked key)) < word_count shape
first_within shape ranges p r spare true key low = let b = bucket_small shape key ranges.bits_fit in omega arith
first_within shape ranges p r zero false key low = omega arith
first_within shape ranges p r (suc n) false key low = omega arith

module _ {M : Type 0} (lawful : M → List Entry → Key → Type 0) (allowed : M → Key → Type 0) (stands : M → List Entry → ℕ → List EntryWords → Type 0) where
  begins_at : {S : Type 0} (key : Setting M) (me : Me S (View M)) (s : Seat) (begins : Phase) (told : List EntryWords) → IsPass lawful allowed stands key me s
      → MayBeginCall lawful allowed stands key me.0 begins told → next_place key.shape (seat s.pass s.refused s.spare s.marked begins) < word_count key.shape
  begins_at key me s begins told p (inl h) =
      let same : begins ≡ first_phase s.spare s.marked h.0 = h.1 ∙ ap (λ (t : Seat). first_phase t.spare t.marked h.0) p.seat_is in
      subst (λ ph. next_place key.shape (seat s.pass s.refused s.spare s.marked ph) < word_count key.shape) (sym same) (first_within key.shape p.ranges s.pass s.refused s.spare s.marked h.0 p.spare)
  begins_at key me s begins told p (inr (inl h)) =
      subst (λ ph. next_place key.shape (seat s.pass s.refused s.spare s.marked ph) < word_count key.shape) (sym h.1) (let low = p.numbers h.0 h.2 in omega arith)
  begins_at key me s begins told p (inr (inr (inl h))) =
      subst (λ ph. next_place key.shape (seat s.pass s.refused s.spare s.marked ph) < word_count key.shape) (sym h) (omega arith)
  begins_at key me s begins told p (inr (inr (inr (inl h)))) =
      subst (λ ph. next_place key.shape (seat s.pass s.refused s.spare s.marked ph) < word_count key.shape) (sym h.1) (let low = p.numbers h.0 h.2 in omega arith)
  begins_at key me s begins told p (inr (inr (inr (inr (inl h))))) =
      let l = longer_is h.1 (listing_in me.0.front h.0) h.3 in
      let low = p.numbers h.0 (listing_known key.shape me.0.front p.legal h.0 l.0 l.1) in
      subst (λ ph. next_place key.shape (seat s.pass s.refused s.spare s.marked ph) < word_count key.shape) (sym h.2) (omega arith)
  begins_at key me s begins told p (inr (inr (inr (inr (inr h))))) =
      subst (λ ph. next_place key.shape (seat s.pass s.refused s.spare s.marked ph) < word_count key.shape) (sym h.1) (let low = p.numbers h.0 h.3 in omega arith)

  -- the next word is one of the table
  pub begun_within : {S : Type 0} (key : Setting M) (me : Me S (View M)) (s : Seat) (begins : Phase) (told : List EntryWords) → IsPass lawful allowed stands key me s
      → (s.phase ≡ Idle → MayBeginCall lawful allowed stands key me.0 begins told) → next_place key.shape (seat_begun begins told s) < word_count key.shape
  begun_within key me s begins told p may = at s.phase refl p.within may where
    at : (phase : Phase) → s.phase ≡ phase → next_place key.shape (seat s.pass s.refused s.spare s.marked phase) < word_count key.shape → (phase ≡ Idle → MayBeginCall lawful allowed stands key me.0 begins told)
        → next_place key.shape (seat s.pass s.refused s.spare s.marked (phase_begun begins told phase)) < word_count key.shape
    at Idle is within ok = begins_at key me s begins told p (ok refl)
    at (ClaimingBlock number len) is within ok = within
    at other is within ok = within

  begins_fit : (key : Setting M) (v : View M) (begins : Phase) (told : List EntryWords) → MayBeginCall lawful allowed stands key v begins told → FitsListWord begins
  begins_fit key v begins told (inl h) = subst FitsListWord (sym h.1) (first_fits v.seat.spare v.seat.marked h.0) where
    first_fits : (spare : ℕ) (marked : Bool) (k : Key) → FitsListWord (first_phase spare marked k)
    first_fits spare true k = tt
    first_fits zero false k = tt
    first_fits (suc n) false k = tt
  begins_fit key v begins told (inr (inl h)) = subst FitsListWord (sym h.1) tt
  begins_fit key v begins told (inr (inr (inl h))) = subst FitsListWord (sym h) tt
  begins_fit key v begins told (inr (inr (inr (inl h)))) = subst FitsListWord (sym h.1) tt
  begins_fit key v begins told (inr (inr (inr (inr (inl h))))) = subst FitsListWord (sym h.2) tt
  begins_fit key v begins told (inr (inr (inr (inr (inr h))))) = subst FitsListWord (sym h.1) tt

  -- its list word fits
  pub begun_fits : (key : Setting M) (v : View M) (begins : Phase) (told : List EntryWords) (phase : Phase) → FitsListWord phase → (phase ≡ Idle → MayBeginCall lawful allowed stands key v begins told)
      → FitsListWord (phase_begun begins told phase)
  begun_fits key v begins told Idle fits may = begins_fit key v begins told (may refl)
  begun_fits key v begins told (ClaimingBlock number len) fits may = tt
  begun_fits key v begins told other fits may = fits

  begins_word : (key : Setting M) (v : View M) (begins : Phase) (told offer : List EntryWords) (word : ℕ) → MayBeginCall lawful allowed stands key v begins told → IsOfferedWord offer begins word
  begins_word key v begins told offer word (inl h) = subst (λ ph. IsOfferedWord offer ph word) (sym h.1) (first_word v.seat.spare v.seat.marked h.0) where
    first_word : (spare : ℕ) (marked : Bool) (k : Key) → IsOfferedWord offer (first_phase spare marked k) word
    first_word spare true k = tt
    first_word zero false k = tt
    first_word (suc n) false k = tt
  begins_word key v begins told offer word (inr (inl h)) = subst (λ ph. IsOfferedWord offer ph word) (sym h.1) tt
  begins_word key v begins told offer word (inr (inr (inl h))) = subst (λ ph. IsOfferedWord offer ph word) (sym h) tt
  begins_word key v begins told offer word (inr (inr (inr (inl h)))) = subst (λ ph. IsOfferedWord offer ph word) (sym h.1) tt
  begins_word key v begins told offer word (inr (inr (inr (inr (inl h))))) = subst (λ ph. IsOfferedWord offer ph word) (sym h.2) tt
  begins_word key v begins told offer word (inr (inr (inr (inr (inr h))))) = subst (λ ph. IsOfferedWord offer ph word) (sym h.1) tt

  -- the word that it stores is that of its offer
  pub begun_word : (key : Setting M) (v : View M) (begins : Phase) (told : List EntryWords) (phase : Phase) (offer : List EntryWords) (word : ℕ)
      → (phase ≡ Idle → MayBeginCall lawful allowed stands key v begins told) → IsOfferedWord offer phase word → IsOfferedWord (offer_begun told phase offer) (phase_begun begins told phase) word
  begun_word key v begins told Idle offer word may is = begins_word key v begins told told word (may refl)
  begun_word key v begins told (ClaimingBlock number len) offer word may is = tt
  begun_word key v begins told other offer word may is = is

  -- a turn that found a word can go on
  pub can_go_on : (key : Setting M) (v : View M) (place was result : ℕ) (w : View M) → Turned lawful allowed stands key v place was w → place ≡ next_place key.shape v.seat
      → (Finds v.seat.phase → result ≡ was) → FitsTurn key.shape v.offer v.seat.phase result
  can_go_on key v place was result w t here finds =
      let fits = both_fit key.shape t.words t.seats t.history t.kept t.lists t.index v.seat.pass v.seat.refused v.seat.spare v.seat.marked v.offer v.seat.phase t.here in
      let at_was : FitsTurn key.shape v.offer v.seat.phase was = subst (FitsTurn key.shape v.offer v.seat.phase) (ap (slice_index t.words) (sym here) ∙ t.read) fits.1 in
      go v.seat.phase finds at_was where
        go : (phase : Phase) → (Finds phase → result ≡ was) → FitsTurn key.shape v.offer phase was → FitsTurn key.shape v.offer phase result
        go (StoringOne k) f ok = tt
        go (StoringTwo k) f ok = tt
        go Idle f ok = tt
        go (Claiming k) f ok = subst (FitsTurn key.shape v.offer (Claiming k)) (sym (f tt)) ok
        go (Linking k from passed) f ok = subst (FitsTurn key.shape v.offer (Linking k from passed)) (sym (f tt)) ok
        go (Swapping k from passed) f ok = subst (FitsTurn key.shape v.offer (Swapping k from passed)) (sym (f tt)) ok
        go (AtOne k node passed) f ok = ok
        go (AtTwo k node passed) f ok = ok
        go (LookingOne node) f ok = tt
        go (LookingTwo node one) f ok = tt
        go (MeasuringList number) f ok = tt
        go (FindingEntry number at) f ok = subst (FitsTurn key.shape v.offer (FindingEntry number at)) (sym (f tt)) ok
        go (ReadingOne number at index) f ok = tt
        go (ReadingTwo number at index one) f ok = tt
        go (ReadingThree number at index one two) f ok = tt
        go (Offering number len) f ok = tt
        go (ClaimingBlock number len) f ok = subst (FitsTurn key.shape v.offer (ClaimingBlock number len)) (sym (f tt)) ok
        go (StoringWord number start len stored) f ok = ok
        go (SwappingList number start len) f ok = ok

  -- what a pass keeps after a turn
  pub still_pass : {S : Type 0} (key : Setting M) (v : View M) (place was : ℕ) (me : Me S (View M)) (s : Seat) → Turned lawful allowed stands key v place was me.0
      → me.1 ≡ [] → v.walks ≡ true → s ≡ (turn_of key.shape v.offer v.seat was).seat → place ≡ next_place key.shape v.seat
      → IsPass lawful allowed stands key me s
  still_pass key v place was me s t empty walks is here =
      let at_place : slice_index t.words (next_place key.shape v.seat) ≡ was = ap (slice_index t.words) (sym here) ∙ t.read in
      let goes = turn_of key.shape v.offer v.seat was in
      let both = both_turn key.shape t.words t.seats t.history t.kept t.lists t.index v.seat.pass v.seat.refused v.seat.spare v.seat.marked v.offer v.seat.phase t.here in
      let words = set t.words (next_place key.shape v.seat) goes.word in
      let seats = set t.seats t.index (with_offer goes.seat v.offer) in
      let history = t.history ++ goes.made in
      let k : Kept key.shape words (seats_of seats) history = subst (λ (n : ℕ). Kept key.shape (set t.words (next_place key.shape v.seat) (turn_of key.shape v.offer v.seat n).word)
      (seats_of (set t.seats t.index (with_offer (turn_of key.shape v.offer v.seat n).seat v.offer))) (t.history ++ (turn_of key.shape v.offer v.seat n).made)) at_place both.0 in
      let l : KeptLists key.shape words seats history = subst (λ (n : ℕ). KeptLists key.shape (set t.words (next_place key.shape v.seat) (turn_of key.shape v.offer v.seat n).word)
      (set t.seats t.index (with_offer (turn_of key.shape v.offer v.seat n).seat v.offer)) (t.history ++ (turn_of key.shape v.offer v.seat n).made)) at_place both.1 in
      let front : me.0.front ≡ history = ap (λ (w : View M). w.front) t.after in
      let seat_is : me.0.seat ≡ s = ap (λ (w : View M). w.seat) t.after ∙ sym is in
      let there = at_again t.seats t.index (with_offer v.seat v.offer) (with_offer goes.seat v.offer) t.here in
      let fits = both_fit key.shape words seats history k l t.index goes.seat.pass goes.seat.refused goes.seat.spare goes.seat.marked v.offer goes.seat.phase there in
      let there' = at_map (λ (x : SeatWithOffer). x.seat) seats t.index (with_offer goes.seat v.offer) there in
      record {
        empty = empty;
        walks = ap (λ (w : View M). w.walks) t.after ∙ walks;
        seat_is = seat_is;
        ranges = k.ranges;
        legal = subst (IsLegal key.shape) (sym front) k.legal;
        means = t.means;
        seen = t.seen;
        numbers = λ n h. (known_small key.shape words (seats_of seats) history k n (subst (λ l. 0 < uses n (known l)) front h)).1;
        spare = subst (λ (x : Seat). x.spare ≤ key.shape.nodes) (sym is) (spare_low key.shape words (seats_of seats) history k t.index goes.seat there');
        mark = λ m. ap (λ (x : Seat). x.spare) is ∙ ((k.seat_is t.index goes.seat there').mark (sym (ap (λ (x : Seat). x.marked) is) ∙ m)).0;
        crowded = λ n. t.crowded (ap no_room seat_is ∙ n);
        paced = subst (IsPaced key.shape.nodes) (sym is)
            (let pf = pace_fits key.shape words (seats_of seats) history k t.index goes.seat.pass goes.seat.refused goes.seat.spare goes.seat.marked goes.seat.phase there' in
            record { low = pf.0; stores = pf.1; claims = pf.2; block = block_of key.shape v.offer goes.seat.phase _ fits.1 });
        within = subst (λ x. next_place key.shape x < word_count key.shape) (sym is) fits.0;
      }

-- a store finds nothing, and goes on all the same
pub same_turn : (shape : Shape) (offer : List EntryWords) (p : ℕ) (r : Option ℕ) (spare : ℕ) (marked : Bool) (phase : Phase) (result was : ℕ) → (Finds phase → result ≡ was)
    → (turn_in shape offer p r spare marked phase result).seat ≡ (turn_in shape offer p r spare marked phase was).seat
same_turn shape offer p r spare marked (StoringOne key) result was f = refl
same_turn shape offer p r spare marked (StoringTwo key) result was f = refl
same_turn shape offer p r spare marked Idle result was f = refl
same_turn shape offer p r spare marked (Claiming key) result was f = ap (λ (n : ℕ). (turn_in shape offer p r spare marked (Claiming key) n).seat) (f tt)
same_turn shape offer p r spare marked (Linking key from passed) result was f = ap (λ (n : ℕ). (turn_in shape offer p r spare marked (Linking key from passed) n).seat) (f tt)
same_turn shape offer p r spare marked (Swapping key from passed) result was f = ap (λ (n : ℕ). (turn_in shape offer p r spare marked (Swapping key from passed) n).seat) (f tt)
same_turn shape offer p r spare marked (AtOne key node passed) result was f = ap (λ (n : ℕ). (turn_in shape offer p r spare marked (AtOne key node passed) n).seat) (f tt)
same_turn shape offer p r spare marked (AtTwo key node passed) result was f = ap (λ (n : ℕ). (turn_in shape offer p r spare marked (AtTwo key node passed) n).seat) (f tt)
same_turn shape offer p r spare marked (LookingOne node) result was f = ap (λ (n : ℕ). (turn_in shape offer p r spare marked (LookingOne node) n).seat) (f tt)
same_turn shape offer p r spare marked (LookingTwo node one) result was f = refl
same_turn shape offer p r spare marked (StoringWord number start len stored) result was f = refl
same_turn shape offer p r spare marked other result was f = ap (λ (n : ℕ). (turn_in shape offer p r spare marked other n).seat) (f tt)

-- a pass that takes in a note is a pass
pub meets_pass : {M : Type 0} (lawful : M → List Entry → Key → Type 0) (allowed : M → Key → Type 0) (stands : M → List Entry → ℕ → List EntryWords → Type 0) {S : Type 0} (me : Me S (View M)) (w : View M) (s : Seat)
    → IsPassOf lawful allowed stands me s → IsPassOf lawful allowed stands (meets me.0 w, me.1) s
meets_pass lawful allowed stands me w s h = (
  h.0,
  h.1,
  record {
    empty = h.2.empty;
    walks = h.2.walks;
    seen = h.2.seen;
    seat_is = h.2.seat_is;
    ranges = h.2.ranges;
    legal = h.2.legal;
    means = h.2.means;
    numbers = h.2.numbers;
    spare = h.2.spare;
    mark = h.2.mark;
    crowded = h.2.crowded;
    paced = h.2.paced;
    within = h.2.within;
  },
)

-- a new pass
pub fresh_pass : {M : Type 0} (lawful : M → List Entry → Key → Type 0) (allowed : M → Key → Type 0) (stands : M → List Entry → ℕ → List EntryWords → Type 0) {S : Type 0} (key : Setting M) (v : View M) (n : ℕ) (s : Seat)
    → IsShape key.shape → v.walks ≡ true → v.setting ≡ Some key → v.front ≡ [] → v.mine ≡ [] → v.seat ≡ seat n None 0 false Idle → s ≡ seat n None 0 false Idle
    → IsPassOf lawful allowed stands {S = S} (v, []) s
fresh_pass lawful allowed stands key v n s ranges walks setting front mine seat_is is = (
  key,
  setting,
  record {
    empty = refl;
    walks = walks;
    seen = ap (own v.seat.pass) front ∙ sym mine;
    seat_is = seat_is ∙ sym is;
    ranges = ranges;
    legal = subst (IsLegal key.shape) (sym front) tt;
    means = subst (MeansAfter lawful allowed stands key.meaning []) (sym front) tt;
    numbers = λ n h. let none : uses n (known v.front) ≡ 0 = ap (λ l. uses n (known l)) front in absurd (omega arith);
    spare = subst (λ (x : Seat). x.spare ≤ key.shape.nodes) (sym is) (omega arith);
    mark = λ m. absurd (false≢true (sym (ap (λ (x : Seat). x.marked) is) ∙ m));
    crowded = λ n. absurd (false≢true (sym (ap no_room is) ∙ n));
    paced = subst (IsPaced key.shape.nodes) (sym is) (record { low = omega arith; stores = λ k e. absurd cc; claims = λ k e. refl; block = tt });
    within = subst (λ (x : Seat). next_place key.shape x < word_count key.shape) (sym is) (omega arith);
  },
)

-- pass 0 gives one away and stays
pub gives_pass : {M : Type 0} (lawful : M → List Entry → Key → Type 0) (allowed : M → Key → Type 0) (stands : M → List Entry → ℕ → List EntryWords → Type 0) {S : Type 0} (me : Me S (View M)) (s : Seat)
    → IsPassOf lawful allowed stands me s → IsPassOf lawful allowed stands (giver me.0, me.1) s
gives_pass lawful allowed stands me s h = (
  h.0,
  h.1,
  record {
    empty = h.2.empty;
    walks = h.2.walks;
    seen = h.2.seen;
    seat_is = h.2.seat_is;
    ranges = h.2.ranges;
    legal = h.2.legal;
    means = h.2.means;
    numbers = h.2.numbers;
    spare = h.2.spare;
    mark = h.2.mark;
    crowded = h.2.crowded;
    paced = h.2.paced;
    within = h.2.within;
  },
)
