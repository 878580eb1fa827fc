-- Whatever a seat's next act is, it keeps what is kept, of nodes and of lists.
use Rattle.std.proofs.Common.{◌≡◌, ◌≢◌, ℕ, zero, suc, ◌+◌, ◌*◌, ◌<◌, ◌≤◌, ◌^◌, ◌==◌, nat_lt, Bool, true, false, List, [], ◌∷◌, ◌++◌, set, refl, sym, ap, ◌∙◌, subst, arith, slice_index, append-nil, Option, ◌⊎◌, inl, inr, ⊎_elim}
use mathlib.Core.Option.{some}
use lib.ListN.{get_elem?}
use Rattle.std.proofs.lemmas.List.{get_or-set_other}
use Rattle.std.proofs.lemmas.Bool.{cond_both, true≢false}
use Rattle.intern_core.specs.declared.shape.Shape.{Shape}
use Rattle.intern_core.specs.declared.history.Key.{Key}
use Rattle.intern_core.specs.declared.history.EntryWords.{EntryWords}
use Rattle.intern_core.specs.declared.history.Entry.{Entry}
use Rattle.intern_core.specs.declared.history.Entry.TheVariants as entry
use Rattle.intern_core.specs.declared.history.Reply.{Reply}
use Rattle.intern_core.specs.declared.seat.Phase.{Phase}
use Rattle.intern_core.specs.declared.seat.Phase.TheVariants.{Idle, Claiming, StoringOne, StoringTwo, Linking, Swapping, AtOne, AtTwo, LookingOne, LookingTwo, MeasuringList, FindingEntry, ReadingOne, ReadingTwo, ReadingThree, Offering, ClaimingBlock, StoringWord, SwappingList}
use Rattle.intern_core.specs.declared.seat.SeatWithOffer.{SeatWithOffer}
use Rattle.intern_core.specs.Layout.{entries_at, one_at, two_at, list_at, link_at, block_at, bucket_of}
use Rattle.intern_core.specs.History.{known, uses, listing_in}
use Rattle.intern_core.specs.Turns.{Turn, seat, next_place_in, turn_in, published, is_on_lists, start_in}
use Rattle.intern_core.specs.Kept.{Kept, HasReached, IsWalk, HasFound}
use Rattle.intern_core.specs.Blocks.{taken_by, claimed_in, length_of, covers_in, HasListed, KeptLists}
use Rattle.intern_core.specs.Machine.{with_offer, seats_of}
use Rattle.intern_core.proofs.Histories.{listing_more, taken-append}
use Rattle.intern_core.proofs.Chains.{bucket_small}
use Rattle.intern_core.proofs.Walks.{walk_place, found_known}
use Rattle.intern_core.proofs.Steps.{known_small, spare_alone}
use Rattle.intern_core.proofs.Turning.{kept_turn}
use Rattle.intern_core.proofs.ListSteps.{at_map, lists_quiet, kept_of_set}
use Rattle.intern_core.proofs.ListTurns.{AfterTurn, IsAt, load, offers, claims, stores, publishes, loses}

-- a word that is no list's and no block's
pub record IsOffLists (shape : Shape) (place : ℕ) : Type 0 where
  pub low : place < block_at shape 0
  pub claim : entries_at ≢ place
  pub list : (n : ℕ) → n ≤ shape.nodes → list_at n ≢ place

link_off : (shape : Shape) (bucket n : ℕ) → bucket < 2 ^ shape.bucket_bits → n ≤ shape.nodes → IsOffLists shape (link_at shape bucket n)
link_off shape bucket zero small low = record { low = omega arith; claim = λ e. omega arith; list = λ m le e. omega arith }
link_off shape bucket (suc n) small low = record { low = omega arith; claim = λ e. omega arith; list = λ m le e. omega arith }

-- a phase of a call for a key or a look, which holds no block
no_block : (phase : Phase) → is_on_lists phase ≡ false → (claimed_in phase ≡ 0) × ((index : ℕ) → covers_in phase index ≡ 0)
no_block Idle off = (refl, (λ i. refl))
no_block (Claiming key) off = (refl, (λ i. refl))
no_block (StoringOne key) off = (refl, (λ i. refl))
no_block (StoringTwo key) off = (refl, (λ i. refl))
no_block (Linking key from passed) off = (refl, (λ i. refl))
no_block (Swapping key from passed) off = (refl, (λ i. refl))
no_block (AtOne key node passed) off = (refl, (λ i. refl))
no_block (AtTwo key node passed) off = (refl, (λ i. refl))
no_block (LookingOne node) off = (refl, (λ i. refl))
no_block (LookingTwo node one) off = (refl, (λ i. refl))
no_block (MeasuringList number) off = absurd (true≢false off)
no_block (FindingEntry number at) off = absurd (true≢false off)
no_block (ReadingOne number at index) off = absurd (true≢false off)
no_block (ReadingTwo number at index one) off = absurd (true≢false off)
no_block (ReadingThree number at index one two) off = absurd (true≢false off)
no_block (Offering number len) off = absurd (true≢false off)
no_block (ClaimingBlock number len) off = absurd (true≢false off)
no_block (StoringWord number start len stored) off = absurd (true≢false off)
no_block (SwappingList number start len) off = absurd (true≢false off)

no_list_call : (shape : Shape) (words : List ℕ) (history : List Entry) (p : ℕ) (r : Option ℕ) (offer : List EntryWords) (phase : Phase) → is_on_lists phase ≡ false
    → HasListed shape words history p r offer phase
no_list_call shape words history p r offer Idle off = tt
no_list_call shape words history p r offer (Claiming key) off = tt
no_list_call shape words history p r offer (StoringOne key) off = tt
no_list_call shape words history p r offer (StoringTwo key) off = tt
no_list_call shape words history p r offer (Linking key from passed) off = tt
no_list_call shape words history p r offer (Swapping key from passed) off = tt
no_list_call shape words history p r offer (AtOne key node passed) off = tt
no_list_call shape words history p r offer (AtTwo key node passed) off = tt
no_list_call shape words history p r offer (LookingOne node) off = tt
no_list_call shape words history p r offer (LookingTwo node one) off = tt
no_list_call shape words history p r offer (MeasuringList number) off = absurd (true≢false off)
no_list_call shape words history p r offer (FindingEntry number at) off = absurd (true≢false off)
no_list_call shape words history p r offer (ReadingOne number at index) off = absurd (true≢false off)
no_list_call shape words history p r offer (ReadingTwo number at index one) off = absurd (true≢false off)
no_list_call shape words history p r offer (ReadingThree number at index one two) off = absurd (true≢false off)
no_list_call shape words history p r offer (Offering number len) off = absurd (true≢false off)
no_list_call shape words history p r offer (ClaimingBlock number len) off = absurd (true≢false off)
no_list_call shape words history p r offer (StoringWord number start len stored) off = absurd (true≢false off)
no_list_call shape words history p r offer (SwappingList number start len) off = absurd (true≢false off)

-- no entry, or a call's
abbrev pub MadesCall : List Entry → Type 0
MadesCall made = (made ≡ []) ⊎ ((p : ℕ) × (key : Key) × (reply : Reply) × (made ≡ entry.Call p key reply ∷ []))

-- what a turn of such a call leaves of lists
pub record IsNodeTurn (r : Option ℕ) (t : Turn) : Type 0 where
  pub off : is_on_lists t.seat.phase ≡ false
  pub refused : t.seat.refused ≡ r
  pub made : MadesCall t.made

node_turn : (shape : Shape) (offer : List EntryWords) (p : ℕ) (r : Option ℕ) (spare : ℕ) (marked : Bool) (phase : Phase) (v : ℕ) → is_on_lists phase ≡ false
    → IsNodeTurn r (turn_in shape offer p r spare marked phase v)
node_turn shape offer p r spare marked Idle v off = record { off = refl; refused = refl; made = inl refl }
node_turn shape offer p r spare marked (Claiming key) v off =
    cond_both (nat_lt v shape.nodes) _ _ (IsNodeTurn r) (λ h. record { off = refl; refused = refl; made = inl refl }) (λ h. record { off = refl; refused = refl; made = inl refl })
node_turn shape offer p r spare marked (StoringOne key) v off = record { off = refl; refused = refl; made = inl refl }
node_turn shape offer p r spare marked (StoringTwo key) v off = record { off = refl; refused = refl; made = inl refl }
node_turn shape offer p r spare true (Linking key from passed) zero off = record { off = refl; refused = refl; made = inr (p, key, _, refl) }
node_turn shape offer p r spare false (Linking key from passed) zero off = record { off = refl; refused = refl; made = inl refl }
node_turn shape offer p r spare true (Linking key from passed) (suc n) off = record { off = refl; refused = refl; made = inl refl }
node_turn shape offer p r spare false (Linking key from passed) (suc n) off = record { off = refl; refused = refl; made = inl refl }
node_turn shape offer p r spare marked (Swapping key from passed) zero off = record { off = refl; refused = refl; made = inr (p, key, _, refl) }
node_turn shape offer p r spare marked (Swapping key from passed) (suc n) off = record { off = refl; refused = refl; made = inl refl }
node_turn shape offer p r spare marked (AtOne key node passed) v off = record {
  off = cond_both (v == key.one) _ _ (λ (ph : Phase). is_on_lists ph ≡ false) (λ h. refl) (λ h. refl);
  refused = refl;
  made = inl refl;
}
node_turn shape offer p r spare marked (AtTwo key node passed) v off =
    cond_both (v == key.two) _ _ (IsNodeTurn r) (λ h. record { off = refl; refused = refl; made = inr (p, key, _, refl) }) (λ h. record { off = refl; refused = refl; made = inl refl })
node_turn shape offer p r spare marked (LookingOne node) v off = record { off = refl; refused = refl; made = inl refl }
node_turn shape offer p r spare marked (LookingTwo node one) v off = record { off = refl; refused = refl; made = inl refl }
node_turn shape offer p r spare marked (MeasuringList number) v off = absurd (true≢false off)
node_turn shape offer p r spare marked (FindingEntry number at) v off = absurd (true≢false off)
node_turn shape offer p r spare marked (ReadingOne number at index) v off = absurd (true≢false off)
node_turn shape offer p r spare marked (ReadingTwo number at index one) v off = absurd (true≢false off)
node_turn shape offer p r spare marked (ReadingThree number at index one two) v off = absurd (true≢false off)
node_turn shape offer p r spare marked (Offering number len) v off = absurd (true≢false off)
node_turn shape offer p r spare marked (ClaimingBlock number len) v off = absurd (true≢false off)
node_turn shape offer p r spare marked (StoringWord number start len stored) v off = absurd (true≢false off)
node_turn shape offer p r spare marked (SwappingList number start len) v off = absurd (true≢false off)

call_taken : (history made : List Entry) → MadesCall made → taken_by (history ++ made) ≡ taken_by history
call_taken history made (inl e) = ap (λ l. taken_by (history ++ l)) e ∙ ap taken_by (append-nil history)
call_taken history made (inr h) =
    let one = ap (λ (l : List Entry). taken_by (history ++ l)) h.3 in omega (arith, taken-append history (entry.Call h.0 h.1 h.2 ∷ []))

call_listing : (history made : List Entry) → MadesCall made → (n : ℕ) → listing_in (history ++ made) n ≡ listing_in history n
call_listing history made (inl e) n = ap (λ l. listing_in (history ++ l) n) e ∙ ap (λ l. listing_in l n) (append-nil history)
call_listing history made (inr h) n = ap (λ (l : List Entry). listing_in (history ++ l) n) h.3 ∙ listing_more history (entry.Call h.0 h.1 h.2) n refl

module _ (shape : Shape) (words : List ℕ) (seats : List SeatWithOffer) (history : List Entry) (k : Kept shape words (seats_of seats) history) (b : KeptLists shape words seats history)
    (i p : ℕ) (r : Option ℕ) (spare : ℕ) (marked : Bool) (offer : List EntryWords) where
  place_off : (phase : Phase) → is_on_lists phase ≡ false → get_elem? (seats_of seats) i ≡ some (seat p r spare marked phase) → IsOffLists shape (next_place_in shape spare phase)
  place_off phase off at = by phase off (k.seat_is i (seat p r spare marked phase) at).reached where
    own : spare ≤ shape.nodes
    own = ⊎_elim (λ z. omega arith) (λ pos. (spare_alone shape words (seats_of seats) history k i (seat p r spare marked phase) at pos).0) (zero_or_more spare) where
      zero_or_more : (n : ℕ) → (n ≡ 0) ⊎ (0 < n)
      zero_or_more zero = inl refl
      zero_or_more (suc n) = inr (omega arith)

    words_of : (n place : ℕ) → n ≤ shape.nodes → 4 * n ≤ place → place ≤ 4 * n + 1 → (n ≡ 0 → place ≡ 0) → IsOffLists shape place
    words_of n place le high low zero_is = record {
      low = omega arith;
      claim = λ e. ⊎_elim (λ (z : n ≡ 0). let zz = zero_is z in omega arith) (λ (pos : 0 < n). omega arith) (zero_or_more n);
      list = λ m l e. omega arith;
    } where
      zero_or_more : (n : ℕ) → (n ≡ 0) ⊎ (0 < n)
      zero_or_more zero = inl refl
      zero_or_more (suc n) = inr (omega arith)

    link : (key : Key) (from steps : ℕ) → IsWalk shape (known history) key from steps → IsOffLists shape (link_at shape (bucket_of shape key) from)
    link key from steps w =
        let low : from ≤ shape.nodes = ⊎_elim (λ e. omega arith) (λ h. (known_small shape words (seats_of seats) history k from h).1) (walk_place shape words (known history) key from steps w) in
        link_off shape (bucket_of shape key) from (bucket_small shape key k.ranges.bits_fit) low

    small : (n : ℕ) → 0 < uses n (known history) → (0 < n) × (n ≤ shape.nodes)
    small n h = known_small shape words (seats_of seats) history k n h

    node_small : (key : Key) (node steps : ℕ) → HasFound shape (known history) key node steps → (0 < node) × (node ≤ shape.nodes)
    node_small key node steps f = small node (found_known shape (known history) key node steps f)

    by : (ph : Phase) → is_on_lists ph ≡ false → HasReached shape words (known history) spare marked ph → IsOffLists shape (next_place_in shape spare ph)
    by Idle off' st = record { low = omega arith; claim = λ e. omega arith; list = λ m l e. omega arith }
    by (Claiming key) off' st = record { low = omega arith; claim = λ e. omega arith; list = λ m l e. omega arith }
    by (StoringOne key) off' st = words_of spare (one_at spare) own (omega arith) (omega arith) (λ z. let pos = st.0 in omega arith)
    by (StoringTwo key) off' st = words_of spare (two_at spare) own (omega arith) (omega arith) (λ z. let pos = st.0 in omega arith)
    by (Linking key from steps) off' st = link key from steps st.1
    by (Swapping key from steps) off' st = link key from steps st.2
    by (AtOne key node steps) off' st = let s = node_small key node steps st.1 in words_of node (one_at node) s.1 (omega arith) (omega arith) (λ z. let pos = s.0 in omega arith)
    by (AtTwo key node steps) off' st = let s = node_small key node steps st.1 in words_of node (two_at node) s.1 (omega arith) (omega arith) (λ z. let pos = s.0 in omega arith)
    by (LookingOne node) off' st = let s = small node st in words_of node (one_at node) s.1 (omega arith) (omega arith) (λ z. let pos = s.0 in omega arith)
    by (LookingTwo node one) off' st = let s = small node st.0 in words_of node (two_at node) s.1 (omega arith) (omega arith) (λ z. let pos = s.0 in omega arith)
    by (MeasuringList number) off' st = absurd (true≢false off')
    by (FindingEntry number at) off' st = absurd (true≢false off')
    by (ReadingOne number at index) off' st = absurd (true≢false off')
    by (ReadingTwo number at index one) off' st = absurd (true≢false off')
    by (ReadingThree number at index one two) off' st = absurd (true≢false off')
    by (Offering number len) off' st = absurd (true≢false off')
    by (ClaimingBlock number len) off' st = absurd (true≢false off')
    by (StoringWord number start len stored) off' st = absurd (true≢false off')
    by (SwappingList number start len) off' st = absurd (true≢false off')

  -- the turn of a call for a key, or of a look
  node_both : (phase : Phase) → is_on_lists phase ≡ false → IsAt shape words seats history k b i p r spare marked offer phase
      → AfterTurn shape words seats history k b i p r spare marked offer (next_place_in shape spare phase) (turn_in shape offer p r spare marked phase (slice_index words (next_place_in shape spare phase)))
  node_both phase off at =
      let s = with_offer (seat p r spare marked phase) offer in
      let place = next_place_in shape spare phase in
      let t = turn_in shape offer p r spare marked phase (slice_index words place) in
      let s' = with_offer t.seat offer in
      let words' = set words place t.word in
      let there = at_map (λ (x : SeatWithOffer). x.seat) seats i s at in
      let free = place_off phase off there in
      let node = node_turn shape offer p r spare marked phase (slice_index words place) off in
      let before = no_block phase off in
      let after = no_block t.seat.phase node.off in (
        kept_of_set shape words seats history words' (history ++ t.made) i s' (kept_turn shape words (seats_of seats) history k i offer (seat p r spare marked phase) off there),
        lists_quiet shape words seats history b words' (history ++ t.made) i s s' at
            (get_or-set_other words place entries_at t.word 0 free.claim)
            (λ n pos le. get_or-set_other words place (list_at n) t.word 0 (free.list n le))
            (λ n high. get_or-set_other words place n t.word 0 (λ e. let low = free.low in omega arith))
            (call_taken history t.made node.made) (call_listing history t.made node.made)
            (after.0 ∙ sym before.0) (ap length_of node.refused) (λ index. after.1 index ∙ sym (before.1 index))
            (record { small = subst (λ o. length_of o ≤ 4096) (sym node.refused) (b.each i s at).small; listed = no_list_call shape words' (history ++ t.made) t.seat.pass t.seat.refused offer t.seat.phase node.off }),
      )

  swaps_list : (number start len v : ℕ) → IsAt shape words seats history k b i p r spare marked offer (SwappingList number start len) → slice_index words (list_at number) ≡ v
      → AfterTurn shape words seats history k b i p r spare marked offer (list_at number) (published p r spare marked offer number start len v)
  swaps_list number start len zero at read = publishes shape words seats history k b i p r spare marked offer number start len at read
  swaps_list number start len (suc n) at read = loses shape words seats history k b i p r spare marked offer number start len (suc n) at read (omega arith)

  pub both_turn : (phase : Phase) → IsAt shape words seats history k b i p r spare marked offer phase
      → AfterTurn shape words seats history k b i p r spare marked offer (next_place_in shape spare phase) (turn_in shape offer p r spare marked phase (slice_index words (next_place_in shape spare phase)))
  both_turn (MeasuringList number) at = load shape words seats history k b i p r spare marked offer (list_at number) _ (MeasuringList number) Idle at refl refl refl (λ n. refl) (λ n. refl) tt tt
  both_turn (FindingEntry number place) at =
      let st = (k.seat_is i (seat p r spare marked (FindingEntry number place)) (at_map (λ (x : SeatWithOffer). x.seat) seats i (with_offer (seat p r spare marked (FindingEntry number place)) offer) at)).reached in
      let small = known_small shape words (seats_of seats) history k number st in
      let listed = (b.each i (with_offer (seat p r spare marked (FindingEntry number place)) offer) at).listed in
      load shape words seats history k b i p r spare marked offer (list_at number) _ (FindingEntry number place) (ReadingOne number place (start_in (slice_index words (list_at number)) + place)) at refl refl refl
      (λ n. refl) (λ n. refl) st (small.0, small.1, listed, refl)
  both_turn (ReadingOne number place index) at =
      let st = (k.seat_is i (seat p r spare marked (ReadingOne number place index)) (at_map (λ (x : SeatWithOffer). x.seat) seats i (with_offer (seat p r spare marked (ReadingOne number place index)) offer) at)).reached in
      let listed = (b.each i (with_offer (seat p r spare marked (ReadingOne number place index)) offer) at).listed in
      load shape words seats history k b i p r spare marked offer (block_at shape index) _ (ReadingOne number place index) (ReadingTwo number place index (slice_index words (block_at shape index))) at refl refl refl
      (λ n. refl) (λ n. refl) st (listed, refl)
  both_turn (ReadingTwo number place index one) at =
      let st = (k.seat_is i (seat p r spare marked (ReadingTwo number place index one)) (at_map (λ (x : SeatWithOffer). x.seat) seats i (with_offer (seat p r spare marked (ReadingTwo number place index one)) offer) at)).reached in
      let listed = (b.each i (with_offer (seat p r spare marked (ReadingTwo number place index one)) offer) at).listed in
      load shape words seats history k b i p r spare marked offer (block_at shape index + 1) _ (ReadingTwo number place index one) (ReadingThree number place index one (slice_index words (block_at shape index + 1))) at refl refl refl
      (λ n. refl) (λ n. refl) st (listed.0, listed.1, refl)
  both_turn (ReadingThree number place index one two) at =
      load shape words seats history k b i p r spare marked offer (block_at shape index + 2) _ (ReadingThree number place index one two) Idle at refl refl refl (λ n. refl) (λ n. refl) tt tt
  both_turn (Offering number len) at = offers shape words seats history k b i p r spare marked offer _ number len at refl
  both_turn (ClaimingBlock number len) at = claims shape words seats history k b i p r spare marked offer number len _ at refl
  both_turn (StoringWord number start len stored) at = stores shape words seats history k b i p r spare marked offer number start len stored at
  both_turn (SwappingList number start len) at = swaps_list number start len _ at refl
  both_turn Idle at = node_both Idle refl at
  both_turn (Claiming key) at = node_both (Claiming key) refl at
  both_turn (StoringOne key) at = node_both (StoringOne key) refl at
  both_turn (StoringTwo key) at = node_both (StoringTwo key) refl at
  both_turn (Linking key from passed) at = node_both (Linking key from passed) refl at
  both_turn (Swapping key from passed) at = node_both (Swapping key from passed) refl at
  both_turn (AtOne key node passed) at = node_both (AtOne key node passed) refl at
  both_turn (AtTwo key node passed) at = node_both (AtTwo key node passed) refl at
  both_turn (LookingOne node) at = node_both (LookingOne node) refl at
  both_turn (LookingTwo node one) at = node_both (LookingTwo node one) refl at
