-- Where an offer finds no room, and what a fetch finds.
use Rattle.std.proofs.Common.{◌≡◌, ◌↔◌, ℕ, zero, suc, ◌+◌, ◌*◌, ◌/◌, ◌%◌, ◌<◌, ◌≤◌, ◌^◌, ◌==◌, nat_lt, nat_le, Bool, true, false, List, [], ◌∷◌, length, refl, sym, ap, ◌∙◌, subst, arith, slice_get, slice_index, get_or, Option, None, Some, option_map}
use Rattle.std.proofs.lemmas.Bool.{cond_both, leb-true, leb-false, true≢false}
use Rattle.intern_core.specs.declared.shape.Shape.{Shape}
use Rattle.intern_core.specs.declared.history.EntryWords.{EntryWords}
use Rattle.intern_core.specs.declared.history.Entry.{Entry}
use Rattle.intern_core.specs.declared.outcome.Outcome2.TheVariants.{Length, Got, Offered}
use Rattle.intern_core.specs.declared.outcome.Published.TheVariants.{NoRoom}
use Rattle.intern_core.specs.declared.seat.Phase.{Phase}
use Rattle.intern_core.specs.declared.seat.Phase.TheVariants.{Idle, Claiming, StoringOne, StoringTwo, Linking, Swapping, AtOne, AtTwo, LookingOne, LookingTwo, MeasuringList, FindingEntry, ReadingOne, ReadingTwo, ReadingThree, Offering, ClaimingBlock, StoringWord, SwappingList}
use Rattle.intern_core.specs.declared.seat.SeatWithOffer.{SeatWithOffer}
use Rattle.intern_core.specs.Layout.{list_at, block_at}
use Rattle.intern_core.specs.History.{Listing, listing_in, known}
use Rattle.intern_core.specs.Image.{Holds, flat, IsListWord}
use Rattle.intern_core.specs.Turns.{Turn, turn_in, next_place_in, length_in, start_in}
use Rattle.intern_core.specs.Blocks.{IsLongerThan, IsEntryOf, HasListed}
use Rattle.intern_core.specs.Kept.{HasReached}
use Rattle.intern_core.specs.Offers.{HasNoRoom, IsPublished}
use Rattle.intern_core.specs.Machine.{Machine, IsKept, seats_of, next_turn}
use Rattle.intern_core.proofs.Holding.{flat_word, length_flat, start_of_word}
use Rattle.intern_core.proofs.Steps.{known_small}
use Rattle.intern_core.proofs.ListSteps.{at_map}
use Rattle.intern_core.proofs.Machines.{got, there_is}

abbrev NoRoomThere : Shape → List ℕ → Option ℕ → Phase → Turn → Type 0
NoRoomThere shape words r phase t = (t.outcome ≡ Offered NoRoom) ↔ HasNoRoom shape words r phase

pub no_room_in : (shape : Shape) (words : List ℕ) (offer : List EntryWords) (p : ℕ) (r : Option ℕ) (spare : ℕ) (marked : Bool) (phase : Phase) (v : ℕ)
    → slice_index words (next_place_in shape spare phase) ≡ v → NoRoomThere shape words r phase (turn_in shape offer p r spare marked phase v)
no_room_in shape words offer p r spare marked Idle v is = ((λ e. absurd cc), (λ h. absurd h))
no_room_in shape words offer p r spare marked (StoringOne key) v is = ((λ e. absurd cc), (λ h. absurd h))
no_room_in shape words offer p r spare marked (StoringTwo key) v is = ((λ e. absurd cc), (λ h. absurd h))
no_room_in shape words offer p r spare marked (LookingOne node) v is = ((λ e. absurd cc), (λ h. absurd h))
no_room_in shape words offer p r spare marked (LookingTwo node one) v is = ((λ e. absurd cc), (λ h. absurd h))
no_room_in shape words offer p r spare marked (AtOne key node passed) v is = ((λ e. absurd cc), (λ h. absurd h))
no_room_in shape words offer p r spare marked (MeasuringList number) v is = ((λ e. absurd cc), (λ h. absurd h))
no_room_in shape words offer p r spare marked (FindingEntry number at) v is = ((λ e. absurd cc), (λ h. absurd h))
no_room_in shape words offer p r spare marked (ReadingOne number at index) v is = ((λ e. absurd cc), (λ h. absurd h))
no_room_in shape words offer p r spare marked (ReadingTwo number at index one) v is = ((λ e. absurd cc), (λ h. absurd h))
no_room_in shape words offer p r spare marked (ReadingThree number at index one two) v is = ((λ e. absurd cc), (λ h. absurd h))
no_room_in shape words offer p r spare marked (StoringWord number start len stored) v is = ((λ e. absurd cc), (λ h. absurd h))
no_room_in shape words offer p r spare marked (Claiming key) v is =
    cond_both (nat_lt v shape.nodes) _ _ (NoRoomThere shape words r (Claiming key)) (λ h. ((λ e. absurd cc), (λ h'. absurd h'))) (λ h. ((λ e. absurd cc), (λ h'. absurd h')))
no_room_in shape words offer p r spare marked (AtTwo key node passed) v is =
    cond_both (v == key.two) _ _ (NoRoomThere shape words r (AtTwo key node passed)) (λ h. ((λ e. absurd cc), (λ h'. absurd h'))) (λ h. ((λ e. absurd cc), (λ h'. absurd h')))
no_room_in shape words offer p r spare true (Linking key from passed) zero is = ((λ e. absurd cc), (λ h. absurd h))
no_room_in shape words offer p r spare true (Linking key from passed) (suc n) is = ((λ e. absurd cc), (λ h. absurd h))
no_room_in shape words offer p r spare false (Linking key from passed) zero is = ((λ e. absurd cc), (λ h. absurd h))
no_room_in shape words offer p r spare false (Linking key from passed) (suc n) is = ((λ e. absurd cc), (λ h. absurd h))
no_room_in shape words offer p r spare marked (Swapping key from passed) zero is = ((λ e. absurd cc), (λ h. absurd h))
no_room_in shape words offer p r spare marked (SwappingList number start len) zero is = ((λ e. absurd cc), (λ h. absurd h))
no_room_in shape words offer p r spare marked (Swapping key from passed) (suc n) is = ((λ e. absurd cc), (λ h. absurd h))
no_room_in shape words offer p r spare marked (SwappingList number start len) (suc n) is = ((λ e. absurd cc), (λ h. absurd h))
no_room_in shape words offer p None spare marked (Offering number len) zero is = ((λ e. absurd cc), (λ h. absurd (true≢false (sym h.1))))
no_room_in shape words offer p (Some q) spare marked (Offering number len) zero is = ((λ e. (is, refl)), (λ h. refl))
no_room_in shape words offer p None spare marked (Offering number len) (suc n) is = ((λ e. absurd cc), (λ h. absurd (let z = h.0 in omega arith)))
no_room_in shape words offer p (Some q) spare marked (Offering number len) (suc n) is = ((λ e. absurd cc), (λ h. absurd (let z = h.0 in omega arith)))
no_room_in shape words offer p r spare marked (ClaimingBlock number len) v is =
    cond_both (nat_le (v + len) shape.entries) _ _ (NoRoomThere shape words r (ClaimingBlock number len))
    (λ h. let low = leb-true (v + len) shape.entries h in ((λ e. absurd cc), (λ h'. absurd (omega arith))))
    (λ h. let high = leb-false (v + len) shape.entries h in ((λ e. omega arith), (λ h'. refl)))

pub no_room_exactly : (m : Machine) (s : SeatWithOffer) → ((next_turn m s).outcome ≡ Offered NoRoom) ↔ HasNoRoom m.shape m.words s.seat.refused s.seat.phase
no_room_exactly m s = no_room_in m.shape m.words s.offer s.seat.pass s.seat.refused s.seat.spare s.seat.marked s.seat.phase _ refl

held_at : (words : List ℕ) (at : ℕ) (vs : List ℕ) (k : ℕ) → k < length vs → Holds words at vs → slice_index words (at + k) ≡ slice_index vs k
held_at words at [] k low h = absurd (omega arith)
held_at words at (x ∷ xs) zero low h = let same : at + 0 ≡ at = omega arith in ap (slice_index words) same ∙ h.0
held_at words at (x ∷ xs) (suc k) low h =
    let same : at + suc k ≡ at + 1 + k = omega arith in ap (slice_index words) same ∙ held_at words (at + 1) xs k (omega arith) h.1

-- the word j of the entry at this place of a published list
word_of_block : (shape : Shape) (words : List ℕ) (word at index j : ℕ) (l : Listing) → shape.entries ≤ 16777216 → IsListWord shape words word (Some l) → at < length l.words
    → index ≡ start_in word + at → j < 3 → slice_index words (block_at shape index + j) ≡ slice_index (flat l.words) (3 * at + j)
word_of_block shape words word at index j l few h low is small =
    let fits = h.2 in
    let start_is : start_in word ≡ h.0 = ap start_in h.1 ∙ start_of_word h.0 (length l.words) (omega arith) in
    let place : block_at shape index + j ≡ block_at shape h.0 + (3 * at + j) = omega arith in
    ap (slice_index words) place
    ∙ held_at words (block_at shape h.0) (flat l.words) (3 * at + j) (omega (arith, length_flat l.words)) h.3

word_of_list : (shape : Shape) (words : List ℕ) (word at index j : ℕ) (l : Listing) → shape.entries ≤ 16777216 → IsListWord shape words word (Some l) → at < length l.words
    → index ≡ start_in word + at → j < 3 → slice_index words (block_at shape index + j) ≡ slice_index (get_or l.words at (record { 0 = [] })).0 j
word_of_list shape words word at index j l few h low is small =
    let quotient : (3 * at + j) / 3 ≡ at = omega arith in
    let rest : (3 * at + j) % 3 ≡ j = omega arith in
    word_of_block shape words word at index j l few h low is small
    ∙ sym (flat_word l.words (3 * at + j) (omega arith))
    ∙ ap (λ n. slice_index (get_or l.words n (record { 0 = [] })).0 ((3 * at + j) % 3)) quotient
    ∙ ap (λ n. slice_index (get_or l.words at (record { 0 = [] })).0 n) rest

-- a word of an entry that a call reads is that of the list
pub entry_word : (shape : Shape) (words : List ℕ) (history : List Entry) → shape.entries ≤ 16777216
    → ((n : ℕ) → 0 < n → n ≤ shape.nodes → IsListWord shape words (slice_index words (list_at n)) (listing_in history n))
    → (number at index j : ℕ) → IsEntryOf shape words history number at index → j < 3
    → (l : Listing) × (listing_in history number ≡ Some l) × (at < length l.words) × (slice_index words (block_at shape index + j) ≡ slice_index (flat l.words) (3 * at + j))
entry_word shape words history few lists number at index j h small = by (listing_in history number) refl h.2 (lists number h.0 h.1) where
  by : (o : Option Listing) → listing_in history number ≡ o → IsLongerThan at o → IsListWord shape words (slice_index words (list_at number)) o
      → (l : Listing) × (listing_in history number ≡ Some l) × (at < length l.words) × (slice_index words (block_at shape index + j) ≡ slice_index (flat l.words) (3 * at + j))
  by None e long w = absurd long
  by (Some l) e long w = (l, e, long, word_of_block shape words (slice_index words (list_at number)) at index j l few w long h.3 small)

-- an entry that is got is the published one
pub got_is : (m : Machine) → IsKept m → (i : ℕ) (s : SeatWithOffer) → slice_get m.seats i ≡ Some s → (number at index one two : ℕ)
    → s.seat.phase ≡ ReadingThree number at index one two → (w : EntryWords) → (next_turn m s).outcome ≡ Got w → IsPublished m.history number at w
got_is m k i s there number at index one two phase_is w out =
    let v = slice_index m.words (block_at m.shape index + 2) in
    let q = s.seat in
    let listed = subst (λ ph. HasListed m.shape m.words m.history q.pass q.refused s.offer ph) phase_is (k.lists.each i s (got m.seats i s there)).listed in
    let entry : IsEntryOf m.shape m.words m.history number at index = listed.0 in
    let now : (turn_in m.shape s.offer q.pass q.refused q.spare q.marked (ReadingThree number at index one two) v).outcome ≡ Got w =
    subst (λ ph. (turn_in m.shape s.offer q.pass q.refused q.spare q.marked ph (slice_index m.words (next_place_in m.shape q.spare ph))).outcome ≡ Got w) phase_is out in
    let w_is : record { 0 = one ∷ two ∷ v ∷ [] } ≡ w = cc in
    by (listing_in m.history number) refl entry.2 (k.kept.image.lists number entry.0 entry.1) entry listed w_is where
      by : (o : Option Listing) → listing_in m.history number ≡ o → IsLongerThan at o → IsListWord m.shape m.words (slice_index m.words (list_at number)) o
          → IsEntryOf m.shape m.words m.history number at index
          → (IsEntryOf m.shape m.words m.history number at index × (slice_index m.words (block_at m.shape index) ≡ one) × (slice_index m.words (block_at m.shape index + 1) ≡ two))
          → ◌≡◌ {A = EntryWords} (record { 0 = one ∷ two ∷ slice_index m.words (block_at m.shape index + 2) ∷ [] }) w → IsPublished m.history number at w
      by None e long h entry listed w_is = absurd long
      by (Some l) e long h entry listed w_is =
          let few = k.kept.ranges.entries_fit in
          let x = get_or l.words at (record { 0 = [] }) in
          let zero_is : block_at m.shape index + 0 ≡ block_at m.shape index = omega arith in
          let a = word_of_list m.shape m.words (slice_index m.words (list_at number)) at index 0 l few h long entry.3 (omega arith) in
          let b = word_of_list m.shape m.words (slice_index m.words (list_at number)) at index 1 l few h long entry.3 (omega arith) in
          let c = word_of_list m.shape m.words (slice_index m.words (list_at number)) at index 2 l few h long entry.3 (omega arith) in
          let first : one ≡ slice_index x.0 0 = sym listed.1 ∙ ap (slice_index m.words) (sym zero_is) ∙ a in
          let second : two ≡ slice_index x.0 1 = sym listed.2 ∙ b in (
            l,
            e,
            x,
            there_is l.words at (record { 0 = [] }) long,
            subst (λ (y : EntryWords). flat (y ∷ []) ≡ flat (x ∷ [])) w_is
                (ap (λ n. n ∷ two ∷ slice_index m.words (block_at m.shape index + 2) ∷ []) first
                ∙ ap (λ n. slice_index x.0 0 ∷ n ∷ slice_index m.words (block_at m.shape index + 2) ∷ []) second
                ∙ ap (λ n. slice_index x.0 0 ∷ slice_index x.0 1 ∷ n ∷ []) c),
          )

-- a list word has the length of the published list
pub length_of_word : (shape : Shape) (words : List ℕ) (word : ℕ) (o : Option Listing) → shape.entries ≤ 16777216 → IsListWord shape words word o
    → length_in word ≡ option_map (λ (l : Listing). length l.words) o
length_of_word shape words zero None few h = refl
length_of_word shape words (suc n) None few h = absurd (let z : suc n ≡ 0 = h in omega arith)
length_of_word shape words zero (Some l) few h = absurd (let is = h.1 in omega arith)
length_of_word shape words (suc n) (Some l) few h =
    let is = h.1 in
    let fits = h.2 in
    let same : suc n % 2 ^ 32 ≡ length l.words = omega arith in
    ap Some same

-- a length that is fetched is that of the published list
pub length_is : (m : Machine) → IsKept m → (i : ℕ) (s : SeatWithOffer) → slice_get m.seats i ≡ Some s → (number : ℕ) → s.seat.phase ≡ MeasuringList number
    → (next_turn m s).outcome ≡ Length (option_map (λ (l : Listing). length l.words) (listing_in m.history number))
length_is m k i s there number phase_is =
    let q = s.seat in
    let reached = (k.kept.seat_is i q (at_map (λ (x : SeatWithOffer). x.seat) m.seats i s (got m.seats i s there))).reached in
    let known_there = subst (λ ph. HasReached m.shape m.words (known m.history) q.spare q.marked ph) phase_is reached in
    let small = known_small m.shape m.words (seats_of m.seats) m.history k.kept number known_there in
    subst (λ ph. (turn_in m.shape s.offer q.pass q.refused q.spare q.marked ph (slice_index m.words (next_place_in m.shape q.spare ph))).outcome
    ≡ Length (option_map (λ (l : Listing). length l.words) (listing_in m.history number))) (sym phase_is)
    (ap Length (length_of_word m.shape m.words (slice_index m.words (list_at number)) (listing_in m.history number) k.kept.ranges.entries_fit (k.kept.image.lists number small.0 small.1)))
