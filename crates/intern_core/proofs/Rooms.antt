-- How much of the entries is claimed, and one more seat.
use Rattle.std.proofs.Common.{◌≡◌, ℕ, zero, suc, ◌+◌, ◌*◌, ◌≤◌, Bool, false, List, [], ◌∷◌, ◌++◌, length, refl, sym, ap, ◌∙◌, subst, arith, slice_index, Option, None, ⊎_elim}
use mathlib.Core.Option.{some, some-injective, some-ne-none}
use lib.ListN.{get_elem?}
use Rattle.std.proofs.lemmas.List.{length-map}
use Rattle.intern_core.specs.declared.shape.Shape.{Shape}
use Rattle.intern_core.specs.declared.history.EntryWords.{EntryWords}
use Rattle.intern_core.specs.declared.history.Entry.{Entry}
use Rattle.intern_core.specs.declared.seat.Phase.{Phase}
use Rattle.intern_core.specs.declared.seat.Phase.TheVariants.{Idle, ClaimingBlock, StoringWord, SwappingList}
use Rattle.intern_core.specs.declared.seat.SeatWithOffer.{SeatWithOffer}
use Rattle.intern_core.specs.Layout.{entries_at}
use Rattle.intern_core.specs.Turns.{seat}
use Rattle.intern_core.specs.Kept.{total, Kept}
use Rattle.intern_core.specs.Blocks.{taken_by, claimed_in, held, length_of, refused_length, holds_entry, HasListed, IsListSeat, KeptLists}
use Rattle.intern_core.specs.Machine.{with_offer, seats_of}
use Rattle.intern_core.proofs.Opening.{total-append, at_snoc}

-- a seat holds a block or was refused one, and never both
one_claim : (shape : Shape) (words : List ℕ) (history : List Entry) (p : ℕ) (r : Option ℕ) (offer : List EntryWords) (phase : Phase) → length_of r ≤ 4096
    → HasListed shape words history p r offer phase → claimed_in phase + length_of r ≤ 4096
one_claim shape words history p r offer (StoringWord number start len stored) small h = let most = h.0.0.1 in let none = ap length_of h.0.1 in omega arith
one_claim shape words history p r offer (SwappingList number start len) small h = let most = h.0.0.1 in let none = ap length_of h.0.1 in omega arith
one_claim shape words history p r offer other small h = omega arith

total_most : {X : Type 0} (f g : X → ℕ) (xs : List X) → ((j : ℕ) (y : X) → get_elem? xs j ≡ some y → f y + g y ≤ 4096) → total f xs + total g xs ≤ 4096 * length xs
total_most f g [] each = omega arith
total_most f g (y ∷ ys) each = omega (arith, each 0 y refl, total_most f g ys (λ j w there. each (suc j) w there))

-- each but one has at most so much
total_but_one : {X : Type 0} (f g : X → ℕ) (xs : List X) (i : ℕ) (x : X) → ((j : ℕ) (y : X) → get_elem? xs j ≡ some y → f y + g y ≤ 4096) → get_elem? xs i ≡ some x
    → f x + g x ≡ 0 → total f xs + total g xs + 4096 ≤ 4096 * length xs
total_but_one f g [] i x each at none = absurd (some-ne-none x (sym at))
total_but_one f g (y ∷ ys) zero x each at none =
    let same : y ≡ x = some-injective y x at in
    let here : f y + g y ≡ 0 = ap (λ z. f z + g z) same ∙ none in
    omega (arith, total_most f g ys (λ j w there. each (suc j) w there))
total_but_one f g (y ∷ ys) (suc i) x each at none = omega (arith, each 0 y refl, total_but_one f g ys i x (λ j w there. each (suc j) w there) at none)

module _ (shape : Shape) (words : List ℕ) (seats : List SeatWithOffer) (history : List Entry) (b : KeptLists shape words seats history) where
  -- where a block is claimed, the claim word has counted the lists and at most 4,096 entries for each other seat
  pub claim_low : Kept shape words (seats_of seats) history → (i p : ℕ) (r : Option ℕ) (spare : ℕ) (marked : Bool) (offer : List EntryWords) (number len : ℕ)
      → get_elem? seats i ≡ some (with_offer (seat p r spare marked (ClaimingBlock number len)) offer)
      → (slice_index words entries_at + 4096 ≤ taken_by history + 4096 * shape.passes) × (len ≤ 4096)
  claim_low k i p r spare marked offer number len at =
      let s = with_offer (seat p r spare marked (ClaimingBlock number len)) offer in
      let may = (b.each i s at).listed in
      let none : held s + refused_length s ≡ 0 = let z = ap length_of may.1 in omega arith in
      let most = total_but_one held refused_length seats i s
      (λ j t there. let e = b.each j t there in one_claim shape words history t.seat.pass t.seat.refused t.offer t.seat.phase e.small e.listed) at none in
      let few = k.few in
      let sum = b.sum in
      (omega (arith, length-map seats (λ (x : SeatWithOffer). x.seat)), may.0.1)

  -- one more seat
  pub lists_joined : (pass : ℕ) → KeptLists shape words (seats ++ with_offer (seat pass None 0 false Idle) [] ∷ []) history
  lists_joined pass =
      let new = with_offer (seat pass None 0 false Idle) [] in
      record {
        sum = let h = b.sum in omega (arith, total-append held seats new, total-append refused_length seats new);
        room = let h = b.room in omega (arith, total-append held seats new);
        blocks = λ index. omega (arith, b.blocks index, total-append (holds_entry index) seats new);
        each = λ i s at. ⊎_elim (λ h. b.each i s h)
            (λ (h : (i ≡ length seats) × (new ≡ s)). subst (IsListSeat shape words history) h.1 (record { small = omega arith; listed = tt }))
            (at_snoc seats new s i at);
      }
