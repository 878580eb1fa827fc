-- Each act keeps what is kept of lists and blocks.
use Rattle.std.proofs.Common.{◌≡◌, ◌≢◌, ℕ, zero, suc, ◌+◌, ◌<◌, ◌≤◌, nat_lt, min, Bool, List, [], ◌∷◌, ◌++◌, map, set, refl, sym, ap, ◌∙◌, subst, arith, slice_index, append-nil, Option, ⊎_elim}
use mathlib.Core.Option.{some, some-injective, some-ne-none}
use lib.ListN.{get_elem?}
use Rattle.std.proofs.lemmas.List.{map-set}
use Rattle.std.proofs.lemmas.Bool.{eq-eqb}
use Rattle.intern_core.specs.declared.shape.Shape.{Shape}
use Rattle.intern_core.specs.declared.history.EntryWords.{EntryWords}
use Rattle.intern_core.specs.declared.history.Entry.{Entry}
use Rattle.intern_core.specs.declared.seat.Phase.{Phase}
use Rattle.intern_core.specs.declared.seat.SeatWithOffer.{SeatWithOffer}
use Rattle.intern_core.specs.Layout.{entries_at, list_at, block_at}
use Rattle.intern_core.specs.History.{known, one_if, listing_in, IsLegal}
use Rattle.intern_core.specs.Turns.{seat}
use Rattle.intern_core.specs.Kept.{total, is_pass, Kept, HasReached}
use Rattle.intern_core.specs.Blocks.{taken_by, claimed_in, held, refused_length, covers_in, covers_list, holds_entry, published_with, IsNotBy, IsLongerThan, HasListed, IsListSeat, KeptLists}
use Rattle.intern_core.specs.Machine.{with_offer, seats_of}
use Rattle.intern_core.proofs.Sums.{total_set, total_one, total_two, at_set}
use Rattle.intern_core.proofs.Steps.{kept_quiet}
use Rattle.intern_core.proofs.Listed.{SameEntry, Stays, listed_stays}
use Rattle.intern_core.proofs.Holding.{published_same}

pub at_map : {A B : Type 0} (f : A → B) (xs : List A) (i : ℕ) (x : A) → get_elem? xs i ≡ some x → get_elem? (map f xs) i ≡ some (f x)
at_map f [] i x at = absurd (some-ne-none x (sym at))
at_map f (y ∷ xs) zero x at = ap (λ z. some (f z)) (some-injective y x at)
at_map f (y ∷ xs) (suc i) x at = at_map f xs i x at

module _ (shape : Shape) (words : List ℕ) (seats : List SeatWithOffer) (history : List Entry) where
  -- a seat changes, with words and history
  pub lists_step : KeptLists shape words seats history → (words' : List ℕ) (history' : List Entry) (i : ℕ) (s s' : SeatWithOffer) → get_elem? seats i ≡ some s
      → slice_index words' entries_at + (taken_by history + held s + refused_length s) ≡ slice_index words entries_at + (taken_by history' + held s' + refused_length s')
      → taken_by history' + held s' + total held seats ≤ shape.entries + held s
      → ((index : ℕ) → published_with words' history' index shape.nodes + holds_entry index s' + total (holds_entry index) seats
      ≤ one_if (nat_lt index (min (slice_index words' entries_at) shape.entries)) + holds_entry index s)
      → ((j : ℕ) (t : SeatWithOffer) → j ≢ i → get_elem? seats j ≡ some t → Stays shape words words' history history' t.seat.pass)
      → ((j : ℕ) (t : SeatWithOffer) → j ≢ i → get_elem? seats j ≡ some t → (index : ℕ) → 1 ≤ published_with words history index shape.nodes + holds_entry index t
      → SameEntry shape words words' history history' index)
      → IsListSeat shape words' history' s' → KeptLists shape words' (set seats i s') history'
  lists_step b words' history' i s s' at sum room blocks stays same own = record {
    sum = let h = b.sum in omega (arith, total_set held seats i s s' at, total_set refused_length seats i s s' at, sum);
    room = omega (arith, total_set held seats i s s' at, room);
    blocks = λ index. omega (arith, total_set (holds_entry index) seats i s s' at, blocks index, total_one (holds_entry index) seats i s at);
    each = λ j t there. ⊎_elim (λ (h : (j ≡ i) × (s' ≡ t)). subst (IsListSeat shape words' history') h.1 own)
        (λ (h : (j ≢ i) × (get_elem? seats j ≡ some t)).
        let was = b.each j t h.1 in
        record { small = was.small; listed = listed_stays shape words words' history history' t.seat.pass (stays j t h.0 h.1) t.seat.refused t.offer t.seat.phase (same j t h.0 h.1) was.listed })
        (at_set seats i j s' t there);
  }

  -- nothing of lists changes but where the seat's call has come
  pub lists_quiet : KeptLists shape words seats history → (words' : List ℕ) (history' : List Entry) (i : ℕ) (s s' : SeatWithOffer) → get_elem? seats i ≡ some s
      → slice_index words' entries_at ≡ slice_index words entries_at
      → ((n : ℕ) → 0 < n → n ≤ shape.nodes → slice_index words' (list_at n) ≡ slice_index words (list_at n))
      → ((n : ℕ) → block_at shape 0 ≤ n → slice_index words' n ≡ slice_index words n)
      → taken_by history' ≡ taken_by history → ((n : ℕ) → listing_in history' n ≡ listing_in history n)
      → held s' ≡ held s → refused_length s' ≡ refused_length s → ((index : ℕ) → holds_entry index s' ≡ holds_entry index s)
      → IsListSeat shape words' history' s' → KeptLists shape words' (set seats i s') history'
  lists_quiet b words' history' i s s' at claim lists blocks taken listings holding refusing covering own =
      let published : (index : ℕ) → published_with words' history' index shape.nodes ≡ published_with words history index shape.nodes =
      λ index. published_same words words' history history' index shape.nodes
      (λ n pos low. ap (λ w. covers_list w (listing_in history' n) index) (lists n pos low) ∙ ap (λ o. covers_list (slice_index words (list_at n)) o index) (listings n)) in
      lists_step b words' history' i s s' at
      (omega arith)
      (let h = b.room in omega arith)
      (λ index. let h = b.blocks index in
      let c = ap (λ n. one_if (nat_lt index (min n shape.entries))) claim in
      omega (arith, published index, covering index, total_one (holds_entry index) seats i s at))
      (λ j t ne there. record {
        longer = λ n a h. subst (IsLongerThan a) (sym (listings n)) h;
        not_by = λ n h. subst (IsNotBy t.seat.pass) (sym (listings n)) h;
        word = λ n a pos low h. lists n pos low;
      })
      (λ j t ne there index h c low. blocks (block_at shape index + c) (omega arith))
      own

  -- no two seats have one pass
  pub other_pass : (k : Kept shape words (seats_of seats) history) (i j : ℕ) (s t : SeatWithOffer) → i ≢ j → get_elem? seats i ≡ some s → get_elem? seats j ≡ some t
      → s.seat.pass ≢ t.seat.pass
  other_pass k i j s t ne at there same =
      let two = total_two (is_pass s.seat.pass) (seats_of seats) i j s.seat t.seat ne (at_map (λ (x : SeatWithOffer). x.seat) seats i s at) (at_map (λ (x : SeatWithOffer). x.seat) seats j t there) in
      let own : is_pass s.seat.pass s.seat ≡ 1 = ap one_if (eq-eqb s.seat.pass s.seat.pass refl) in
      let other : is_pass s.seat.pass t.seat ≡ 1 = ap one_if (eq-eqb t.seat.pass s.seat.pass (sym same)) in
      let most = k.apart s.seat.pass in
      omega arith

  pub kept_of_set : (words' : List ℕ) (history' : List Entry) (i : ℕ) (s' : SeatWithOffer) → Kept shape words' (set (seats_of seats) i s'.seat) history'
      → Kept shape words' (seats_of (set seats i s')) history'
  kept_of_set words' history' i s' k = subst (λ l. Kept shape words' l history') (sym (map-set (λ (x : SeatWithOffer). x.seat) seats i s')) k

  -- a load, and a call that begins
  pub quiet_both : (k : Kept shape words (seats_of seats) history) → KeptLists shape words seats history
      → (i p : ℕ) (r : Option ℕ) (spare : ℕ) (marked : Bool) (offer offer' : List EntryWords) (before after : Phase)
      → get_elem? seats i ≡ some (with_offer (seat p r spare marked before) offer)
      → claimed_in before ≡ 0 → claimed_in after ≡ 0 → ((index : ℕ) → covers_in before index ≡ 0) → ((index : ℕ) → covers_in after index ≡ 0)
      → HasReached shape words (known history) spare marked after → HasListed shape words history p r offer' after
      → Kept shape words (seats_of (set seats i (with_offer (seat p r spare marked after) offer'))) (history ++ [])
      × KeptLists shape words (set seats i (with_offer (seat p r spare marked after) offer')) (history ++ [])
  quiet_both k b i p r spare marked offer offer' before after at none none' free free' reached listed =
      let nothing : history ++ [] ≡ history = append-nil history in
      let s = with_offer (seat p r spare marked before) offer in
      let s' = with_offer (seat p r spare marked after) offer' in (
        kept_of_set words (history ++ []) i s'
            (kept_quiet shape words (seats_of seats) history k i p r spare marked before after [] (at_map (λ (x : SeatWithOffer). x.seat) seats i s at)
            (ap known nothing) (λ n. ap (λ l. listing_in l n) nothing) (subst (IsLegal shape) (sym nothing) k.legal) reached),
        lists_quiet b words (history ++ []) i s s' at refl (λ n pos low. refl) (λ n low. refl) (ap taken_by nothing) (λ n. ap (λ l. listing_in l n) nothing)
            (none' ∙ sym none) refl (λ index. free' index ∙ sym (free index))
            (subst (λ h. IsListSeat shape words h s') (sym nothing) (record { small = (b.each i s at).small; listed = listed })),
      )
