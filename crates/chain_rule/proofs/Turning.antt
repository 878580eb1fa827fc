-- A pass may take its next turn: it keeps the rule, and is told what the turn was.
use Rattle.std.proofs.Common.{◌≡◌, ◌≢◌, ℕ, zero, suc, ◌+◌, ◌<◌, ◌≤◌, ◌⊎◌, inl, inr, ⊎_elim, Bool, true, false, cond, List, [], ◌∷◌, ◌++◌, length, set, set-set, refl, sym, ap, ◌∙◌, subst, arith, slice_index, append-nil, Option, Some, None, IfSome, is_some, subst₂, length-set}
use mathlib.Core.Option.{some}
use lib.ListN.{get_elem?}
use Rattle.std.proofs.lemmas.Bool.{eq-eqb, ne_eqb}
use Rattle.atomic_table.specs.Table.{State, Allows, Me, keeps}
use Rattle.atomic_table.proofs.Lists.{at_set, set_again}
use Rattle.intern_core.specs.declared.shape.Shape.{Shape}
use Rattle.intern_core.specs.declared.history.Key.{Key}
use Rattle.intern_core.specs.declared.history.Reply.{Reply}
use Rattle.intern_core.specs.declared.history.Reply.TheVariants.{Num, Full}
use Rattle.intern_core.specs.declared.history.Entry.{Entry}
use Rattle.intern_core.specs.declared.history.EntryWords.{EntryWords}
use Rattle.intern_core.specs.declared.history.Entry.TheVariants.{Call}
use Rattle.intern_core.specs.declared.seat.SeatWithOffer.{SeatWithOffer}
use Rattle.intern_core.specs.declared.seat.Phase.{Phase}
use Rattle.intern_core.specs.declared.seat.Phase.TheVariants.{Idle, ClaimingBlock, StoringWord, SwappingList}
use Rattle.intern_core.specs.Layout.{entries_at}
use Rattle.intern_core.specs.History.{known, uses, known_after, listing_in}
use Rattle.intern_core.specs.Turns.{Turn, seat, next_place, next_place_in, turn_of, first_phase, offered}
use Rattle.intern_core.specs.Kept.{Kept, HasReached}
use Rattle.intern_core.specs.Blocks.{taken_by, claimed_in, covers_in, IsLongerThan, HasListed, KeptLists}
use Rattle.intern_core.specs.Machine.{with_offer, seats_of}
use Rattle.intern_core.specs.Pace.{key_in}
use Rattle.intern_core.proofs.Histories.{known_after-append, uses_after, taken-append, listing_known}
use Rattle.intern_core.proofs.ListSteps.{at_map, quiet_both}
use Rattle.intern_core.proofs.BothTurns.{both_turn}
use Rattle.intern_core.proofs.Rooms.{claim_low}
use Rattle.intern_core.proofs.Walks.{ask_reached}
use Rattle.chain_rule.specs.declared.meaning.Setting.{Setting}
use Rattle.chain_rule.specs.declared.view.View.{View}
use Rattle.chain_rule.specs.Rule.{IsFront, pass_of, own, block_in, no_room, IsCrowded, offering_seats, Means, MeansAfter, Walks, Knows, Counts, Ruled}
use Rattle.chain_rule.specs.Told.{phase_begun, seat_begun, offer_begun, view_begun, moved, MayBeginCall, MayTell, Turned}
use Rattle.chain_rule.proofs.Views.{Place, place_of_pass, front_self, front_more, own-append, means_more, at_again, listing_front, longer_is}
use Rattle.chain_rule.proofs.MadeEntries.{offered_in, MakesEntry, made_by, Made, turn_made}

-- a phase without a block
abbrev Plain : Phase → Type 0
Plain ph = (block_in ph ≡ None) × (offered_in ph ≡ None) × (claimed_in ph ≡ 0) × ((index : ℕ) → covers_in ph index ≡ 0)

first_plain : (spare : ℕ) (marked : Bool) (key : Key) → Plain (first_phase spare marked key)
first_plain spare true key = (refl, refl, refl, (λ i. refl))
first_plain zero false key = (refl, refl, refl, (λ i. refl))
first_plain (suc n) false key = (refl, refl, refl, (λ i. refl))

first_listed : (shape : Shape) (words : List ℕ) (history : List Entry) (p : ℕ) (r : Option ℕ) (offer : List EntryWords) (spare : ℕ) (marked : Bool) (key : Key)
    → HasListed shape words history p r offer (first_phase spare marked key)
first_listed shape words history p r offer spare true key = tt
first_listed shape words history p r offer zero false key = tt
first_listed shape words history p r offer (suc n) false key = tt

module _ {M : Type 0} (lawful : M → List Entry → Key → Type 0) (allowed : M → Key → Type 0) (stands : M → List Entry → ℕ → List EntryWords → Type 0) (key : Setting M) (v : View M) (begins : Phase) (told : List EntryWords) where
  begins_plain : MayBeginCall lawful allowed stands key v begins told → Plain begins
  begins_plain (inl h) = subst Plain (sym h.1) (first_plain v.seat.spare v.seat.marked h.0)
  begins_plain (inr (inl h)) = subst Plain (sym h.1) (refl, refl, refl, (λ i. refl))
  begins_plain (inr (inr (inl h))) = subst Plain (sym h) (refl, refl, refl, (λ i. refl))
  begins_plain (inr (inr (inr (inl h)))) = subst Plain (sym h.1) (refl, refl, refl, (λ i. refl))
  begins_plain (inr (inr (inr (inr (inl h))))) = subst Plain (sym h.2) (refl, refl, refl, (λ i. refl))
  begins_plain (inr (inr (inr (inr (inr h))))) = subst Plain (sym h.1) (refl, refl, refl, (λ i. refl))

  -- what is offered stands for the number
  begun_ready : (phase : Phase) (offer : List EntryWords) → (phase ≡ Idle → MayBeginCall lawful allowed stands key v begins told) → MayTell lawful allowed stands key v.front told phase
      → IfSome (block_in phase) (λ n. stands key.meaning v.front n offer)
      → IfSome (offered_in (phase_begun begins told phase)) (λ n. stands key.meaning v.front n (offer_begun told phase offer))
  begun_ready Idle offer may tell block = subst (λ o. IfSome o (λ n. stands key.meaning v.front n told)) (sym (begins_plain (may refl)).1) tt
  begun_ready (ClaimingBlock number len) offer may tell block = tell.1
  begun_ready (StoringWord number start len stored) offer may tell block = block
  begun_ready (SwappingList number start len) offer may tell block = block
  begun_ready other offer may tell block = tt

-- the word that is left is the one of the turn, wherever the rule holds
abbrev pub Leaves : {M : Type 0} → Setting M → View M → ℕ → (ℕ → ℕ) → Type 0
Leaves key v place f = (words : List ℕ) (seats : List SeatWithOffer) (history : List Entry) (i : ℕ) → Kept key.shape words (seats_of seats) history
    → KeptLists key.shape words seats history → get_elem? seats i ≡ some (with_offer v.seat v.offer)
    → f (slice_index words place) ≡ (turn_of key.shape v.offer v.seat (slice_index words place)).word

-- a crowded front stays so
pub crowded_on : (shape : Shape) (f h : List Entry) → IsFront f h → IsCrowded shape f → IsCrowded shape h
crowded_on shape f h front crowded = let e : taken_by h ≡ taken_by f + taken_by front.0 = ap taken_by front.1 ∙ taken-append f front.0 in omega arith

module _ {M : Type 0} (lawful : M → List Entry → Key → Type 0) (allowed : M → Key → Type 0) (stands : M → List Entry → ℕ → List EntryWords → Type 0) {S : Type 0} (key : Setting M) where
  -- one pass and the words change, and the history goes on
  pub ruled_set : (s : State S (View M)) (r : Ruled lawful allowed stands key s) (id : ℕ) (v w : View M) → get_elem? s.views id ≡ some v → v.walks ≡ true → w.walks ≡ true
      → w.seat.pass ≡ v.seat.pass → w.made ≡ v.made → (place : Place s.views id v) (words : List ℕ) (history : List Entry)
      → Kept key.shape words (seats_of (set (offering_seats s.views) place.at (with_offer w.seat w.offer))) history
      → KeptLists key.shape words (set (offering_seats s.views) place.at (with_offer w.seat w.offer)) history
      → MeansAfter lawful allowed stands key.meaning [] history → IsFront r.history history → Knows lawful allowed stands key history w
      → ((q : ℕ) → q ≢ v.seat.pass → own q history ≡ own q r.history)
      → Ruled lawful allowed stands key record { words = words; homes = s.homes; views = set s.views id w }
  ruled_set s r id v w at walks walks' same same_made place words history kept lists means longer knows others = record {
    history = history;
    kept = subst (λ l. Kept key.shape words (seats_of l) history) (sym (place.changed w walks')) kept;
    lists = subst (λ l. KeptLists key.shape words l history) (sym (place.changed w walks')) lists;
    means = means;
    views = λ j x there. ⊎_elim
        (λ (h : (j ≡ id) × (w ≡ x)). subst (Knows lawful allowed stands key history) h.1 knows)
        (λ (h : (j ≢ id) × (get_elem? s.views j ≡ some x)).
        let k = r.views j x h.1 in
        record {
          front = subst (IsFront x.front) (sym longer.1) (front_more x.front r.history longer.0 k.front);
          met = subst (IsFront x.met) (sym longer.1) (front_more x.met r.history longer.0 k.met);
          walker = λ y. let g = k.walker y in record {
            setting = g.setting;
            mine = others x.seat.pass (λ e. h.0 (r.apart j id x v h.1 at y walks e)) ∙ g.mine;
            seen = g.seen;
            call = g.call;
            block = g.block;
            crowded = g.crowded;
          };
        })
        (at_set s.views id j w x there);
    apart = λ i j x y hi hj xw yw e. ⊎_elim
        (λ (h : (i ≡ id) × (w ≡ x)). ⊎_elim
        (λ (g : (j ≡ id) × (w ≡ y)). h.0 ∙ sym g.0)
        (λ (g : (j ≢ id) × (get_elem? s.views j ≡ some y)). h.0 ∙ r.apart id j v y at g.1 walks yw (sym same ∙ ap (λ (u : View M). u.seat.pass) h.1 ∙ e))
        (at_set s.views id j w y hj))
        (λ (h : (i ≢ id) × (get_elem? s.views i ≡ some x)). ⊎_elim
        (λ (g : (j ≡ id) × (w ≡ y)). r.apart i id x v h.1 at xw walks (e ∙ sym (ap (λ (u : View M). u.seat.pass) g.1) ∙ same) ∙ sym g.0)
        (λ (g : (j ≢ id) × (get_elem? s.views j ≡ some y)). r.apart i j x y h.1 g.1 xw yw e)
        (at_set s.views id j w y hj))
        (at_set s.views id i w x hi);
    counts = λ i x hi xw zero_is. ⊎_elim
        (λ (h : (i ≡ id) × (w ≡ x)). subst (Counts lawful allowed stands history (set s.views id w)) h.1
        (counts_on v w (r.counts id v at walks (sym same ∙ ap (λ (u : View M). u.seat.pass) h.1 ∙ zero_is)) same_made))
        (λ (h : (i ≢ id) × (get_elem? s.views i ≡ some x)). counts_on x x (r.counts i x h.1 xw zero_is) refl)
        (at_set s.views id i w x hi);
  } where
    counts_on : (x y : View M) → Counts lawful allowed stands r.history s.views x → y.made ≡ x.made → Counts lawful allowed stands history (set s.views id w) y
    counts_on x y c e = record {
      many = ap length (place.changed w walks') ∙ length-set (offering_seats s.views) place.at (with_offer w.seat w.offer) ∙ c.many ∙ sym e;
      below = λ j u there uw. ⊎_elim
          (λ (h : (j ≡ id) × (w ≡ u)). let low = c.below id v at walks in let n : w.seat.pass < y.made = subst₂ (λ a b. a < b) (sym same) (sym e) low in subst (λ (z : View M). z.seat.pass < y.made) h.1 n)
          (λ (h : (j ≢ id) × (get_elem? s.views j ≡ some u)). subst (λ n. u.seat.pass < n) (sym e) (c.below j u h.1 uw))
          (at_set s.views id j w u there);
      silent = λ p high. let low = c.below id v at walks in let high' : x.made ≤ p = subst (λ n. n ≤ p) e high in others p (λ z. absurd (omega arith)) ∙ c.silent p high';
    }

module _ {M : Type 0} (lawful : M → List Entry → Key → Type 0) (allowed : M → Key → Type 0) (stands : M → List Entry → ℕ → List EntryWords → Type 0)
    (stays : (m : M) (h more : List Entry) (k : Key) → lawful m h k → lawful m (h ++ more) k)
    (standing : (m : M) (h more : List Entry) (n : ℕ) (ws : List EntryWords) → stands m h n ws → stands m (h ++ more) n ws) (key : Setting M) where
  lawful_on : (f h : List Entry) (call : Option Key) → IsFront f h → IfSome call (λ k. lawful key.meaning f k × allowed key.meaning k)
      → IfSome call (λ k. lawful key.meaning h k × allowed key.meaning k)
  lawful_on f h None front ok = tt
  lawful_on f h (Some k) front ok = (subst (λ l. lawful key.meaning l k) (sym front.1) (stays key.meaning f front.0 k ok.0), ok.1)

  standing_on : (f h : List Entry) (o : Option ℕ) (ws : List EntryWords) → IsFront f h → IfSome o (λ n. stands key.meaning f n ws) → IfSome o (λ n. stands key.meaning h n ws)
  standing_on f h None ws front ok = tt
  standing_on f h (Some n) ws front ok = subst (λ l. stands key.meaning l n ws) (sym front.1) (standing key.meaning f front.0 n ws ok)

module _ {M : Type 0} (lawful : M → List Entry → Key → Type 0) (allowed : M → Key → Type 0) (stands : M → List Entry → ℕ → List EntryWords → Type 0)
    (stays : (m : M) (h more : List Entry) (k : Key) → lawful m h k → lawful m (h ++ more) k)
    (standing : (m : M) (h more : List Entry) (n : ℕ) (ws : List EntryWords) → stands m h n ws → stands m (h ++ more) n ws) {S : Type 0} (key : Setting M) where
  -- a turn of a pass
  module _ (s : State S (View M)) (r : Ruled lawful allowed stands key s) (id : ℕ) (v : View M) (at : get_elem? s.views id ≡ some v) (walks : v.walks ≡ true)
      (ready : IfSome (offered_in v.seat.phase) (λ n. stands key.meaning v.front n v.offer)) where
    abbrev found : ℕ
    found = slice_index s.words (next_place key.shape v.seat)

    abbrev goes : Turn
    goes = turn_of key.shape v.offer v.seat found

    walker : Walks lawful allowed stands key r.history v
    walker = (r.views id v at).walker walks

    new_front : IsFront v.front r.history
    new_front = (r.views id v at).front

    made : Made key.shape v.offer v.seat.pass v.seat.refused v.seat.marked v.seat.phase found goes
    made = turn_made key.shape v.offer v.seat.pass v.seat.refused v.seat.spare v.seat.marked v.seat.phase found

    owns : (own v.seat.pass goes.made ≡ goes.made) × ((q : ℕ) → q ≢ v.seat.pass → own q goes.made ≡ [])
    owns = ⊎_elim
        (λ (e : goes.made ≡ []). (ap (own v.seat.pass) e ∙ sym e, λ q ne. ap (own q) e))
        (λ (h : (e : Entry) × (goes.made ≡ e ∷ []) × MakesEntry v.seat.pass v.offer v.seat.phase e).
        let by = made_by v.seat.pass v.offer v.seat.phase h.0 h.2 in (
          ap (own v.seat.pass) h.1 ∙ ap (λ t. cond t (h.0 ∷ []) []) (eq-eqb (pass_of h.0) v.seat.pass by) ∙ sym h.1,
          λ q ne. ap (own q) h.1 ∙ ap (λ t. cond t (h.0 ∷ []) []) (ne_eqb (pass_of h.0) q (λ e. ne (sym e ∙ by))),
        ))
        made.made

    means_call : (k : Key) (a : Reply) → lawful key.meaning r.history k × allowed key.meaning k → Means lawful allowed stands key.meaning r.history (Call v.seat.pass k a)
    means_call k (Num n) ok = λ none. ok
    means_call k Full ok = tt

    means_entry : (e : Entry) → MakesEntry v.seat.pass v.offer v.seat.phase e → Means lawful allowed stands key.meaning r.history e
    means_entry e (inl h) = subst (Means lawful allowed stands key.meaning r.history) (sym h.2)
        (means_call h.0 h.1 (subst (λ o. IfSome o (λ k. lawful key.meaning r.history k × allowed key.meaning k)) h.3 (lawful_on lawful allowed stands stays standing key v.front r.history (key_in v.seat.phase) new_front walker.call)))
    means_entry e (inr (inl h)) = subst (Means lawful allowed stands key.meaning r.history) (sym h.1)
        (subst (λ o. IfSome o (λ n. stands key.meaning r.history n v.offer)) h.2 (standing_on lawful allowed stands stays standing key v.front r.history (block_in v.seat.phase) v.offer new_front walker.block))
    means_entry e (inr (inr h)) = subst (Means lawful allowed stands key.meaning r.history) (sym h.2) tt

    pub turn_means : MeansAfter lawful allowed stands key.meaning [] (r.history ++ goes.made)
    turn_means = ⊎_elim
        (λ (e : goes.made ≡ []). subst (MeansAfter lawful allowed stands key.meaning []) (sym (ap (λ l. r.history ++ l) e ∙ append-nil r.history)) r.means)
        (λ (h : (e : Entry) × (goes.made ≡ e ∷ []) × MakesEntry v.seat.pass v.offer v.seat.phase e).
        subst (λ l. MeansAfter lawful allowed stands key.meaning [] (r.history ++ l)) (sym h.1)
        (means_more lawful allowed stands key.meaning [] r.history h.0 r.means (means_entry h.0 h.2)))
        made.made

    -- a front is crowded once a block is refused
    pub turn_crowded : no_room goes.seat ≡ true → IsCrowded key.shape (r.history ++ goes.made)
    turn_crowded none = ⊎_elim
        (λ (e : goes.seat.refused ≡ v.seat.refused).
        crowded_on key.shape v.front (r.history ++ goes.made) (front_more v.front r.history goes.made new_front) (walker.crowded (sym (ap (λ (o : Option ℕ). is_some o) e) ∙ none)))
        (λ (h : (number len : ℕ) × (v.seat.phase ≡ ClaimingBlock number len) × (key.shape.entries < found + len)).
        let place = place_of_pass s.views id v at walks in
        let there = subst (λ ph. get_elem? (offering_seats s.views) place.at ≡ some (with_offer (seat v.seat.pass v.seat.refused v.seat.spare v.seat.marked ph) v.offer)) h.2 place.seat_there in
        let low = claim_low key.shape s.words (offering_seats s.views) r.history r.lists r.kept place.at v.seat.pass v.seat.refused v.seat.spare v.seat.marked v.offer h.0 h.1 there in
        let read : found ≡ slice_index s.words entries_at = ap (λ ph. slice_index s.words (next_place_in key.shape v.seat.spare ph)) h.2 in
        let claimed = low.0 in
        let small = low.1 in
        let over = h.3 in
        omega (arith, taken-append r.history goes.made))
        made.refused

    pub ruled_turn : Ruled lawful allowed stands key record {
      words = set s.words (next_place key.shape v.seat) goes.word;
      homes = s.homes;
      views = set s.views id (moved v r.history goes);
    }
    ruled_turn =
        let place = place_of_pass s.views id v at walks in
        let p = both_turn key.shape s.words (offering_seats s.views) r.history r.kept r.lists place.at v.seat.pass v.seat.refused v.seat.spare v.seat.marked v.offer v.seat.phase place.seat_there in
        let mine : own goes.seat.pass (r.history ++ goes.made) ≡ v.mine ++ goes.made =
        ap (λ n. own n (r.history ++ goes.made)) made.pass ∙ own-append v.seat.pass r.history goes.made ∙ ap (λ l. l ++ own v.seat.pass goes.made) walker.mine ∙ ap (λ l. v.mine ++ l) owns.0 in
        let on : IsFront v.front (r.history ++ goes.made) = front_more v.front r.history goes.made new_front in
        ruled_set lawful allowed stands key s r id v (moved v r.history goes) at walks walks made.pass refl place (set s.words (next_place key.shape v.seat) goes.word) (r.history ++ goes.made) p.0 p.1 turn_means
        (goes.made, refl)
        (record {
          front = front_self (r.history ++ goes.made);
          met = front_more v.met r.history goes.made (r.views id v at).met;
          walker = λ _. record {
            setting = walker.setting;
            mine = mine;
            seen = mine;
            call = ⊎_elim
                (λ (e : key_in goes.seat.phase ≡ None). subst (λ o. IfSome o (λ k. lawful key.meaning (r.history ++ goes.made) k × allowed key.meaning k)) (sym e) tt)
                (λ (e : key_in goes.seat.phase ≡ key_in v.seat.phase). subst (λ o. IfSome o (λ k. lawful key.meaning (r.history ++ goes.made) k × allowed key.meaning k)) (sym e)
                (lawful_on lawful allowed stands stays standing key v.front (r.history ++ goes.made) (key_in v.seat.phase) on walker.call))
                made.call;
            block = ⊎_elim
                (λ (e : block_in goes.seat.phase ≡ None). subst (λ o. IfSome o (λ n. stands key.meaning (r.history ++ goes.made) n v.offer)) (sym e) tt)
                (λ (e : block_in goes.seat.phase ≡ offered_in v.seat.phase). subst (λ o. IfSome o (λ n. stands key.meaning (r.history ++ goes.made) n v.offer)) (sym e)
                (standing_on lawful allowed stands stays standing key v.front (r.history ++ goes.made) (offered_in v.seat.phase) v.offer on ready))
                made.block;
            crowded = turn_crowded;
          };
        })
        (λ q ne. own-append q r.history goes.made ∙ ap (λ l. own q r.history ++ l) (owns.1 q ne) ∙ append-nil (own q r.history))

  -- a call begins, or the words of an offer are told
  begin_in : (s : State S (View M)) (r : Ruled lawful allowed stands key s) (id : ℕ) (u : View M) (phase : Phase) (begins : Phase) (told : List EntryWords)
      → get_elem? s.views id ≡ some (record u { seat = seat u.seat.pass u.seat.refused u.seat.spare u.seat.marked phase }) → u.walks ≡ true
      → (phase ≡ Idle → MayBeginCall lawful allowed stands key u begins told) → MayTell lawful allowed stands key u.front told phase
      → Ruled lawful allowed stands key record {
        words = s.words;
        homes = s.homes;
        views = set s.views id (record u { seat = seat u.seat.pass u.seat.refused u.seat.spare u.seat.marked (phase_begun begins told phase); offer = offer_begun told phase u.offer });
      }
  begin_in s r id u Idle begins told at walks may tell =
      let v = record u { seat = seat u.seat.pass u.seat.refused u.seat.spare u.seat.marked Idle } in
      let w = record u { seat = seat u.seat.pass u.seat.refused u.seat.spare u.seat.marked begins; offer = told } in
      let place = place_of_pass s.views id v at walks in
      let k = r.views id v at in
      let g = k.walker walks in
      let plain = begins_plain lawful allowed stands key u begins told (may refl) in
      let can : After begins = can_begin (may refl) in
      let both = quiet_both key.shape s.words (offering_seats s.views) r.history r.kept r.lists place.at u.seat.pass u.seat.refused u.seat.spare u.seat.marked u.offer told Idle begins place.seat_there
      refl plain.2 (λ i. refl) plain.3 can.0 can.1 in
      ruled_set lawful allowed stands key s r id v w at walks walks refl refl place s.words r.history
      (subst (Kept key.shape s.words (seats_of (set (offering_seats s.views) place.at (with_offer w.seat w.offer)))) (append-nil r.history) both.0)
      (subst (KeptLists key.shape s.words (set (offering_seats s.views) place.at (with_offer w.seat w.offer))) (append-nil r.history) both.1)
      r.means (front_self r.history)
      (record {
        front = k.front;
        met = k.met;
        walker = λ _. record {
          setting = g.setting;
          mine = g.mine;
          seen = g.seen;
          call = can.2;
          block = subst (λ o. IfSome o (λ n. stands key.meaning u.front n told)) (sym plain.0) tt;
          crowded = g.crowded;
        };
      })
      (λ q ne. refl) where
        asked : (spare : ℕ) (marked : Bool) (x : Key) (front : List Entry) → lawful key.meaning front x → allowed key.meaning x
            → IfSome (key_in (first_phase spare marked x)) (λ y. lawful key.meaning front y × allowed key.meaning y)
        asked spare true x front a b = (a, b)
        asked zero false x front a b = (a, b)
        asked (suc n) false x front a b = (a, b)

        After : Phase → Type 0
        After ph = HasReached key.shape s.words (known r.history) u.seat.spare u.seat.marked ph × HasListed key.shape s.words r.history u.seat.pass u.seat.refused told ph
            × IfSome (key_in ph) (λ x. lawful key.meaning u.front x × allowed key.meaning x)

        front : IsFront u.front r.history
        front = (r.views id (record u { seat = seat u.seat.pass u.seat.refused u.seat.spare u.seat.marked Idle }) at).front

        known_on : (n : ℕ) → 0 < uses n (known u.front) → 0 < uses n (known r.history)
        known_on n h =
            let e : known r.history ≡ known_after (known u.front) front.0 = ap known front.1 ∙ known_after-append [] u.front front.0 in
            let up = uses_after n (known u.front) front.0 in
            let same = ap (uses n) e in
            omega arith

        can_begin : MayBeginCall lawful allowed stands key u begins told → After begins
        can_begin (inl h) = subst After (sym h.1) (
          ask_reached key.shape s.words (known r.history) u.seat.spare u.seat.marked h.0,
          first_listed key.shape s.words r.history u.seat.pass u.seat.refused told u.seat.spare u.seat.marked h.0,
          asked u.seat.spare u.seat.marked h.0 u.front h.2 h.3,
        )
        can_begin (inr (inl h)) = subst After (sym h.1) (known_on h.0 h.2, tt, tt)
        can_begin (inr (inr (inl h))) = subst After (sym h) (tt, tt, tt)
        can_begin (inr (inr (inr (inl h)))) = subst After (sym h.1) (known_on h.0 h.2, tt, tt)
        can_begin (inr (inr (inr (inr (inl h))))) =
            let l = longer_is h.1 (listing_in u.front h.0) h.3 in
            let there : listing_in r.history h.0 ≡ Some l.0 = ap (λ (x : List Entry). listing_in x h.0) front.1 ∙ listing_front u.front front.0 h.0 l.0 l.1 in
            subst After (sym h.2) (listing_known key.shape r.history r.kept.legal h.0 l.0 there, subst (IsLongerThan h.1) (sym there) l.2, tt)
        can_begin (inr (inr (inr (inr (inr h))))) = subst After (sym h.1) (known_on h.0 h.3, (ap (λ (l : List EntryWords). length l) h.2, omega arith), tt)
  begin_in s r id u (ClaimingBlock number len) begins told at walks may tell =
      let v = record u { seat = seat u.seat.pass u.seat.refused u.seat.spare u.seat.marked (ClaimingBlock number len) } in
      let w = record u { seat = seat u.seat.pass u.seat.refused u.seat.spare u.seat.marked (ClaimingBlock number (length told)); offer = told } in
      let place = place_of_pass s.views id v at walks in
      let k = r.views id v at in
      let g = k.walker walks in
      let there = at_map (λ (x : SeatWithOffer). x.seat) (offering_seats s.views) place.at (with_offer v.seat v.offer) place.seat_there in
      let reached = (r.kept.seat_is place.at v.seat there).reached in
      let was = (r.lists.each place.at (with_offer v.seat v.offer) place.seat_there).listed in
      let both = quiet_both key.shape s.words (offering_seats s.views) r.history r.kept r.lists place.at u.seat.pass u.seat.refused u.seat.spare u.seat.marked u.offer told
      (ClaimingBlock number len) (ClaimingBlock number (length told)) place.seat_there refl refl (λ i. refl) (λ i. refl) reached ((refl, tell.0), was.1, was.2) in
      ruled_set lawful allowed stands key s r id v w at walks walks refl refl place s.words r.history
      (subst (Kept key.shape s.words (seats_of (set (offering_seats s.views) place.at (with_offer w.seat w.offer)))) (append-nil r.history) both.0)
      (subst (KeptLists key.shape s.words (set (offering_seats s.views) place.at (with_offer w.seat w.offer))) (append-nil r.history) both.1)
      r.means (front_self r.history)
      (record { front = k.front; met = k.met; walker = λ _. record { setting = g.setting; mine = g.mine; seen = g.seen; call = tt; block = tt; crowded = g.crowded } })
      (λ q ne. refl)
  begin_in s r id u other begins told at walks may tell =
      subst (λ l. Ruled lawful allowed stands key record { words = s.words; homes = s.homes; views = l }) (sym (set_again s.views id (record u { seat = seat u.seat.pass u.seat.refused u.seat.spare u.seat.marked other }) at)) r

  pub ruled_begun : (s : State S (View M)) (r : Ruled lawful allowed stands key s) (id : ℕ) (v : View M) (begins : Phase) (told : List EntryWords) → get_elem? s.views id ≡ some v → v.walks ≡ true
      → (v.seat.phase ≡ Idle → MayBeginCall lawful allowed stands key v begins told) → MayTell lawful allowed stands key v.front told v.seat.phase
      → Ruled lawful allowed stands key record { words = s.words; homes = s.homes; views = set s.views id (view_begun begins told v) }
  ruled_begun s r id v begins told at walks may tell = begin_in s r id v v.seat.phase begins told at walks may tell

  pub allows_turn : (slots id : ℕ) (v : View M) (begins : Phase) (told : List EntryWords) (place : ℕ) (f : ℕ → ℕ) (then : ℕ → Me S (View M) → Type 0)
      → v.walks ≡ true → v.setting ≡ Some key → (v.seat.phase ≡ Idle → MayBeginCall lawful allowed stands key v begins told) → MayTell lawful allowed stands key v.front told v.seat.phase
      → place ≡ next_place key.shape (seat_begun begins told v.seat) → Leaves key (view_begun begins told v) place f
      → ((n : ℕ) (w : View M) → Turned lawful allowed stands key (view_begun begins told v) place n w → then n (w, []))
      → Allows (Ruled lawful allowed stands key) slots id (v, []) place f then
  allows_turn slots id v begins told place f then walks setting may tell is leaves tells s r long at fits =
      let u = view_begun begins told v in
      let t : State S (View M) = record { words = s.words; homes = s.homes; views = set s.views id u } in
      let q = ruled_begun s r id v begins told at walks may tell in
      let there = at_again s.views id v u at in
      let ready = begun_ready lawful allowed stands key v begins told v.seat.phase v.offer may tell ((r.views id v at).walker walks).block in
      let place' = place_of_pass t.views id u there walks in
      let n = slice_index s.words place in
      let goes = turn_of key.shape u.offer u.seat n in
      let w = moved u q.history goes in
      let next = ruled_turn t q id u there walks ready in
      let end : Ruled lawful allowed stands key record { words = set s.words place (f n); homes = s.homes; views = set s.views id w } =
      subst₂ (λ ws vs. Ruled lawful allowed stands key record { words = ws; homes = s.homes; views = vs })
      (ap (λ (p : ℕ). set s.words p (turn_of key.shape u.offer u.seat (slice_index s.words p)).word) (sym is)
      ∙ ap (set s.words place) (sym (leaves s.words (offering_seats t.views) q.history place'.at q.kept q.lists place'.seat_there)))
      (set-set s.views id u _ ∙ ap (λ (p : ℕ). set s.views id (moved u q.history (turn_of key.shape u.offer u.seat (slice_index s.words p)))) (sym is))
      next in
      let last = (end.views id w (at_again s.views id v w at)).walker walks in (
        w,
        keeps,
        tt,
        end,
        tells n w (record {
          words = s.words;
          seats = offering_seats t.views;
          index = place'.at;
          history = q.history;
          kept = q.kept;
          lists = q.lists;
          here = place'.seat_there;
          read = refl;
          front = (q.views id u there).front;
          met = (q.views id u there).met;
          after = refl;
          seen = last.seen;
          means = subst (λ p. MeansAfter lawful allowed stands key.meaning [] (q.history ++ (turn_of key.shape u.offer u.seat (slice_index s.words p)).made)) (sym is) (turn_means t q id u there walks ready);
          crowded = last.crowded;
        }),
      )
