-- The numbers of a seat's next turn fit, and its next word is in the table.
use Rattle.std.proofs.Common.{◌≡◌, ℕ, suc, ◌+◌, ◌*◌, ◌/◌, ◌<◌, ◌≤◌, ◌^◌, Bool, false, List, [], ◌∷◌, length, refl, ap, ◌∙◌, arith, slice_index, Option, None, Some}
use mathlib.Core.Option.{some}
use lib.ListN.{get_elem?}
use Rattle.std.proofs.lemmas.List.{length-map}
use Rattle.intern_core.specs.declared.shape.Shape.{Shape}
use Rattle.intern_core.specs.declared.history.EntryWords.{EntryWords}
use Rattle.intern_core.specs.declared.history.Entry.{Entry}
use Rattle.intern_core.specs.declared.seat.Phase.{Phase}
use Rattle.intern_core.specs.declared.seat.Phase.TheVariants.{Idle, Claiming, StoringOne, StoringTwo, Linking, Swapping, AtOne, AtTwo, LookingOne, LookingTwo, MeasuringList, FindingEntry, ReadingOne, ReadingTwo, ReadingThree, Offering, ClaimingBlock, StoringWord, SwappingList}
use Rattle.intern_core.specs.declared.seat.SeatWithOffer.{SeatWithOffer}
use Rattle.intern_core.specs.Layout.{entries_at, list_at, word_count}
use Rattle.intern_core.specs.History.{known, uses, Listing, listing_in}
use Rattle.intern_core.specs.Image.{IsListWord}
use Rattle.intern_core.specs.Turns.{seat, next_place_in, start_in, is_on_lists, FitsTurn}
use Rattle.intern_core.specs.Kept.{total, Kept}
use Rattle.intern_core.specs.Blocks.{refused_length, IsLongerThan, IsEntryOf, KeptLists}
use Rattle.intern_core.specs.Machine.{with_offer, seats_of}
use Rattle.intern_core.proofs.Steps.{known_small}
use Rattle.intern_core.proofs.Turning.{turn_fits}
use Rattle.intern_core.proofs.Holding.{start_of_word}
use Rattle.intern_core.proofs.ListSteps.{at_map}

total_at_most : {X : Type 0} (f : X → ℕ) (xs : List X) → ((i : ℕ) (x : X) → get_elem? xs i ≡ some x → f x ≤ 4096) → total f xs ≤ 4096 * length xs
total_at_most f [] each = omega arith
total_at_most f (x ∷ xs) each = omega (arith, each 0 x refl, total_at_most f xs (λ i y at. each (suc i) y at))

-- the block of a published list is in the table
pub list_fits : (shape : Shape) (words : List ℕ) (word at : ℕ) (o : Option Listing) → shape.entries ≤ 16777216 → IsListWord shape words word o → IsLongerThan at o
    → (0 < word / 2 ^ 32) × (start_in word + at < shape.entries)
list_fits shape words word at None fits h long = absurd long
list_fits shape words word at (Some l) fits h long =
    let is = h.1 in
    let room = h.2 in
    let start_is : start_in word ≡ h.0 = ap start_in h.1 ∙ start_of_word h.0 (length l.words) (omega arith) in
    (omega arith, omega arith)

module _ (shape : Shape) (words : List ℕ) (seats : List SeatWithOffer) (history : List Entry) (k : Kept shape words (seats_of seats) history) (b : KeptLists shape words seats history)
    (i p : ℕ) (r : Option ℕ) (spare : ℕ) (marked : Bool) (offer : List EntryWords) where
  -- the claim word of the entries stays small
  pub entries_small : slice_index words entries_at ≤ 16777216 + 4096 * 65
  entries_small =
      let refused = total_at_most refused_length seats (λ j t at. (b.each j t at).small) in
      let few = k.few in
      let passes = k.ranges.passes_fit in
      let fits = k.ranges.entries_fit in
      let sum = b.sum in
      let room = b.room in
      omega (arith, length-map seats (λ (s : SeatWithOffer). s.seat))

  abbrev Fits : Phase → Type 0
  Fits phase = (next_place_in shape spare phase < word_count shape) × FitsTurn shape offer phase (slice_index words (next_place_in shape spare phase))

  known_place : (number : ℕ) → 0 < uses number (known history) → list_at number < word_count shape
  known_place number there = let s = known_small shape words (seats_of seats) history k number there in let low = s.1 in omega arith

  index_low : (number at index : ℕ) → IsEntryOf shape words history number at index → index < shape.entries
  index_low number at index h =
      let f = list_fits shape words (slice_index words (list_at number)) at (listing_in history number) k.ranges.entries_fit (k.image.lists number h.0 h.1) h.2 in
      let low = f.1 in
      let is = h.3 in
      omega arith

  node_fits : (phase : Phase) → is_on_lists phase ≡ false → get_elem? seats i ≡ some (with_offer (seat p r spare marked phase) offer) → Fits phase
  node_fits phase off there =
      let f = turn_fits shape words (seats_of seats) history k i offer p r spare marked phase off
      (at_map (λ (x : SeatWithOffer). x.seat) seats i (with_offer (seat p r spare marked phase) offer) there) in (f.0, f.1)

  pub both_fit : (phase : Phase) → get_elem? seats i ≡ some (with_offer (seat p r spare marked phase) offer) → Fits phase
  both_fit Idle there = node_fits Idle refl there
  both_fit (Claiming key) there = node_fits (Claiming key) refl there
  both_fit (StoringOne key) there = node_fits (StoringOne key) refl there
  both_fit (StoringTwo key) there = node_fits (StoringTwo key) refl there
  both_fit (Linking key from passed) there = node_fits (Linking key from passed) refl there
  both_fit (Swapping key from passed) there = node_fits (Swapping key from passed) refl there
  both_fit (AtOne key node passed) there = node_fits (AtOne key node passed) refl there
  both_fit (AtTwo key node passed) there = node_fits (AtTwo key node passed) refl there
  both_fit (LookingOne node) there = node_fits (LookingOne node) refl there
  both_fit (LookingTwo node one) there = node_fits (LookingTwo node one) refl there
  both_fit (MeasuringList number) there = (known_place number (k.seat_is i (seat p r spare marked (MeasuringList number)) (at_map (λ (x : SeatWithOffer). x.seat) seats i (with_offer (seat p r spare marked (MeasuringList number)) offer) there)).reached, tt)
  both_fit (FindingEntry number at) there =
      let known_there = (k.seat_is i (seat p r spare marked (FindingEntry number at)) (at_map (λ (x : SeatWithOffer). x.seat) seats i (with_offer (seat p r spare marked (FindingEntry number at)) offer) there)).reached in
      let small = known_small shape words (seats_of seats) history k number known_there in
      let f = list_fits shape words (slice_index words (list_at number)) at (listing_in history number) k.ranges.entries_fit (k.image.lists number small.0 small.1) (b.each i (with_offer (seat p r spare marked (FindingEntry number at)) offer) there).listed in
      let low = f.1 in
      let few = k.ranges.entries_fit in
      (known_place number known_there, (f.0, omega arith))
  both_fit (ReadingOne number at index) there = (let low = index_low number at index (b.each i (with_offer (seat p r spare marked (ReadingOne number at index)) offer) there).listed in omega arith, tt)
  both_fit (ReadingTwo number at index one) there = (let low = index_low number at index (b.each i (with_offer (seat p r spare marked (ReadingTwo number at index one)) offer) there).listed.0 in omega arith, tt)
  both_fit (ReadingThree number at index one two) there = (let low = index_low number at index (b.each i (with_offer (seat p r spare marked (ReadingThree number at index one two)) offer) there).listed.0 in omega arith, tt)
  both_fit (Offering number len) there = (known_place number (k.seat_is i (seat p r spare marked (Offering number len)) (at_map (λ (x : SeatWithOffer). x.seat) seats i (with_offer (seat p r spare marked (Offering number len)) offer) there)).reached, tt)
  both_fit (ClaimingBlock number len) there =
      let size = (b.each i (with_offer (seat p r spare marked (ClaimingBlock number len)) offer) there).listed.0 in
      let most = size.1 in
      let small = entries_small in
      let few = k.ranges.entries_fit in
      (omega arith, (omega arith, (λ h. omega arith)))
  both_fit (StoringWord number start len stored) there =
      let h = (b.each i (with_offer (seat p r spare marked (StoringWord number start len stored)) offer) there).listed in
      let size = h.0.0.0 in
      let most = h.0.0.1 in
      let fits = h.1 in
      let low = h.2 in
      (omega arith, (omega arith, omega arith))
  both_fit (SwappingList number start len) there =
      let h = (b.each i (with_offer (seat p r spare marked (SwappingList number start len)) offer) there).listed in
      let fits = h.1 in
      let few = k.ranges.entries_fit in
      (known_place number (k.seat_is i (seat p r spare marked (SwappingList number start len)) (at_map (λ (x : SeatWithOffer). x.seat) seats i (with_offer (seat p r spare marked (SwappingList number start len)) offer) there)).reached, omega arith)
