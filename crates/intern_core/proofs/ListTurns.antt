-- Whatever the next act of a call on lists is, it keeps what is kept.
use Rattle.std.proofs.Common.{◌≡◌, ◌≢◌, ℕ, zero, suc, ◌+◌, ◌*◌, ◌/◌, ◌<◌, ◌≤◌, nat_lt, nat_le, min, Bool, List, [], ◌∷◌, ◌++◌, length, set, take, refl, sym, ap, ◌∙◌, subst, arith, slice_index, append-nil, Option, None, Some, ⊎_elim}
use mathlib.Core.Option.{some}
use lib.ListN.{get_elem?}
use Rattle.std.proofs.lemmas.List.{set-get_or, get_or-set_same, get_or-set_other}
use Rattle.std.proofs.lemmas.Bool.{cases_eq, cond_both, ltb-true, ltb-false, leb-true}
use Rattle.intern_core.specs.declared.shape.Shape.{Shape}
use Rattle.intern_core.specs.declared.history.EntryWords.{EntryWords}
use Rattle.intern_core.specs.declared.history.Entry.{Entry}
use Rattle.intern_core.specs.declared.history.Entry.TheVariants as entry
use Rattle.intern_core.specs.declared.seat.Phase.{Phase}
use Rattle.intern_core.specs.declared.seat.Phase.TheVariants.{Idle, Offering, ClaimingBlock, StoringWord, SwappingList}
use Rattle.intern_core.specs.declared.seat.SeatWithOffer.{SeatWithOffer}
use Rattle.intern_core.specs.Layout.{entries_at, list_at, block_at}
use Rattle.intern_core.specs.History.{known, uses, one_if, Listing, listing, listing_in, IsLegal, IsOfAnother}
use Rattle.intern_core.specs.Image.{Holds, flat, list_word, IsListWord}
use Rattle.intern_core.specs.Turns.{Turn, seat, storing, start_in, offered, block_claimed}
use Rattle.intern_core.specs.Kept.{total, Kept, HasReached}
use Rattle.intern_core.specs.Blocks.{taken_by, claimed_in, held, length_of, covers, covers_in, covers_list, holds_entry, published_with, IsNotBy, IsLongerThan, MayPublish, HasListed, KeptLists}
use Rattle.intern_core.specs.Machine.{with_offer, seats_of}
use Rattle.intern_core.proofs.Sums.{total_one, total_two}
use Rattle.intern_core.proofs.Histories.{known_more, legal_more, listing_more, listing_new, listing_other, taken-append}
use Rattle.intern_core.proofs.Lists.{lists_same}
use Rattle.intern_core.proofs.Steps.{kept_quiet, known_small}
use Rattle.intern_core.proofs.Aside.{kept_aside, entries_aside, list_aside, block_aside}
use Rattle.intern_core.proofs.Holding.{holds_stored, holds_all, holds_apart, length_flat, covered, covers_next, given_grows, given_most, start_of_word, published_one, published_same, published_more}
use Rattle.intern_core.proofs.Listed.{SameEntry, list_word_stays}
use Rattle.intern_core.proofs.ListSteps.{at_map, lists_step, other_pass, kept_of_set, quiet_both}

-- a list word that is 0 names no list, and one that isn't names one
pub no_list : (shape : Shape) (words : List ℕ) (word : ℕ) (o : Option Listing) → IsListWord shape words word o → word ≡ 0 → o ≡ None
no_list shape words word None h none = refl
no_list shape words word (Some l) h none = absurd (let e = h.1 in omega arith)

pub of_another : (shape : Shape) (words : List ℕ) (word p : ℕ) (o : Option Listing) → IsListWord shape words word o → 0 < word → IsNotBy p o → IsOfAnother p o
of_another shape words word p None h pos not = absurd (let e : word ≡ 0 = h in omega arith)
of_another shape words word p (Some l) h pos not = not

-- once so many words are stored
claimed_storing : (number start len stored : ℕ) → claimed_in (storing number start len stored) ≡ len
claimed_storing number start len stored = cond_both (nat_lt stored (3 * len)) _ _ (λ (ph : Phase). claimed_in ph ≡ len) (λ h. refl) (λ h. refl)

covers_storing : (number start len stored index : ℕ) → covers_in (storing number start len stored) index ≡ covers start len index
covers_storing number start len stored index = cond_both (nat_lt stored (3 * len)) _ _ (λ (ph : Phase). covers_in ph index ≡ covers start len index) (λ h. refl) (λ h. refl)

reached_storing : (shape : Shape) (words : List ℕ) (history : List Entry) (spare : ℕ) (marked : Bool) (number start len stored : ℕ) → 0 < uses number (known history)
    → HasReached shape words (known history) spare marked (storing number start len stored)
reached_storing shape words history spare marked number start len stored there =
    cond_both (nat_lt stored (3 * len)) _ _ (λ (ph : Phase). HasReached shape words (known history) spare marked ph) (λ h. there) (λ h. there)

listed_storing : (shape : Shape) (words : List ℕ) (history : List Entry) (p : ℕ) (r : Option ℕ) (offer : List EntryWords) (number start len stored : ℕ)
    → MayPublish history p r offer number len → start + len ≤ shape.entries → Holds words (block_at shape start) (take stored (flat offer))
    → HasListed shape words history p r offer (storing number start len stored)
listed_storing shape words history p r offer number start len stored may fits holds =
    cond_both (nat_lt stored (3 * len)) _ _ (λ (ph : Phase). HasListed shape words history p r offer ph)
    (λ h. (may, fits, ltb-true stored (3 * len) h, holds))
    (λ h. let high = ltb-false stored (3 * len) h in let size = may.0.0 in
    (may, fits, holds_all words (block_at shape start) stored (flat offer) (omega (arith, length_flat offer)) holds))

module _ (shape : Shape) (words : List ℕ) (seats : List SeatWithOffer) (history : List Entry) (k : Kept shape words (seats_of seats) history) (b : KeptLists shape words seats history)
    (i p : ℕ) (r : Option ℕ) (spare : ℕ) (marked : Bool) (offer : List EntryWords) where
  -- what is kept with these words, seat and history
  abbrev pub Both : List ℕ → SeatWithOffer → List Entry → Type 0
  Both words' s' history' = Kept shape words' (seats_of (set seats i s')) history' × KeptLists shape words' (set seats i s') history'

  abbrev pub IsAt : Phase → Type 0
  IsAt phase = get_elem? seats i ≡ some (with_offer (seat p r spare marked phase) offer)

  abbrev pub AfterTurn : ℕ → Turn → Type 0
  AfterTurn place t = Both (set words place t.word) (with_offer t.seat offer) (history ++ t.made)

  seat_there : (before : Phase) → IsAt before → get_elem? (seats_of seats) i ≡ some (seat p r spare marked before)
  seat_there before at = at_map (λ (x : SeatWithOffer). x.seat) seats i (with_offer (seat p r spare marked before) offer) at

  reached_there : (before : Phase) → IsAt before → HasReached shape words (known history) spare marked before
  reached_there before at = (k.seat_is i (seat p r spare marked before) (seat_there before at)).reached

  listed_there : (before : Phase) → IsAt before → HasListed shape words history p r offer before
  listed_there before at = (b.each i (with_offer (seat p r spare marked before) offer) at).listed

  nothing : history ++ [] ≡ history
  nothing = append-nil history

  -- the words found are left
  unchanged : (place v : ℕ) (s' : SeatWithOffer) (history' : List Entry) → slice_index words place ≡ v → Both words s' history' → Both (set words place v) s' history'
  unchanged place v s' history' read both = subst (λ ws. Both ws s' history') (sym (ap (set words place) (sym read) ∙ set-get_or words place 0)) both

  pub load : (place v : ℕ) (before after : Phase) → IsAt before → slice_index words place ≡ v → claimed_in before ≡ 0 → claimed_in after ≡ 0
      → ((index : ℕ) → covers_in before index ≡ 0) → ((index : ℕ) → covers_in after index ≡ 0)
      → HasReached shape words (known history) spare marked after → HasListed shape words history p r offer after
      → Both (set words place v) (with_offer (seat p r spare marked after) offer) (history ++ [])
  load place v before after at read none none' free free' reached listed =
      unchanged place v (with_offer (seat p r spare marked after) offer) (history ++ []) read
      (quiet_both shape words seats history k b i p r spare marked offer offer before after at none none' free free' reached listed)

  pub word_of : (number : ℕ) → 0 < uses number (known history) → IsListWord shape words (slice_index words (list_at number)) (listing_in history number)
  word_of number there = let small = known_small shape words (seats_of seats) history k number there in k.image.lists number small.0 small.1

  pub offers : (v number len : ℕ) → IsAt (Offering number len) → slice_index words (list_at number) ≡ v → AfterTurn (list_at number) (offered p r spare marked number len v)
  offers v number len at read = by r v refl read where
    there : 0 < uses number (known history)
    there = reached_there (Offering number len) at

    ends : (w : ℕ) → slice_index words (list_at number) ≡ w → Both (set words (list_at number) w) (with_offer (seat p r spare marked Idle) offer) (history ++ [])
    ends w is = load (list_at number) w (Offering number len) Idle at is refl refl (λ n. refl) (λ n. refl) tt tt

    by : (o : Option ℕ) (w : ℕ) → r ≡ o → slice_index words (list_at number) ≡ w → AfterTurn (list_at number) (offered p o spare marked number len w)
    by None zero none is = subst (λ (o : Option ℕ). Both (set words (list_at number) 0) (with_offer (seat p o spare marked (ClaimingBlock number len)) offer) (history ++ [])) none
        (load (list_at number) 0 (Offering number len) (ClaimingBlock number len) at is refl refl (λ n. refl) (λ n. refl) there
        (listed_there (Offering number len) at, none, subst (IsNotBy p) (sym (no_list shape words (slice_index words (list_at number)) (listing_in history number) (word_of number there) is)) tt))
    by (Some q) zero some_r is = subst (λ (o : Option ℕ). Both (set words (list_at number) 0) (with_offer (seat p o spare marked Idle) offer) (history ++ [])) some_r (ends 0 is)
    by None (suc n) none is = subst (λ (o : Option ℕ). Both (set words (list_at number) (suc n)) (with_offer (seat p o spare marked Idle) offer) (history ++ [])) none (ends (suc n) is)
    by (Some q) (suc n) some_r is = subst (λ (o : Option ℕ). Both (set words (list_at number) (suc n)) (with_offer (seat p o spare marked Idle) offer) (history ++ [])) some_r (ends (suc n) is)

  table_room : entries_at < length words
  table_room = let h = k.long in omega arith

  -- the claim word of the entries changes, and nothing else of lists
  claim_changes : (number len v' : ℕ) (r' : Option ℕ) (after : Phase) → IsAt (ClaimingBlock number len)
      → v' + length_of r ≡ slice_index words entries_at + (claimed_in after + length_of r')
      → claimed_in after + taken_by history + total held seats ≤ shape.entries
      → ((index : ℕ) → one_if (nat_lt index (min (slice_index words entries_at) shape.entries)) + covers_in after index ≤ one_if (nat_lt index (min v' shape.entries)))
      → HasReached shape words (known history) spare marked after → (HasReached shape words (known history) spare marked after → HasReached shape (set words entries_at v') (known history) spare marked after)
      → length_of r' ≤ 4096 → HasListed shape (set words entries_at v') history p r' offer after
      → Both (set words entries_at v') (with_offer (seat p r' spare marked after) offer) (history ++ [])
  claim_changes number len v' r' after at sum room blocks reached move small listed =
      let before = ClaimingBlock number len in
      let s = with_offer (seat p r spare marked before) offer in
      let s' = with_offer (seat p r' spare marked after) offer in
      let words' = set words entries_at v' in
      let claim : slice_index words' entries_at ≡ v' = get_or-set_same words entries_at v' 0 table_room in
      let others : (n : ℕ) → n ≢ entries_at → slice_index words' n ≡ slice_index words n = λ n ne. get_or-set_other words entries_at n v' 0 ne in
      let listings : (n : ℕ) → listing_in (history ++ []) n ≡ listing_in history n = λ n. ap (λ l. listing_in l n) nothing in
      let taken : taken_by (history ++ []) ≡ taken_by history = ap taken_by nothing in
      let publishing : (index : ℕ) → published_with words' (history ++ []) index shape.nodes ≡ published_with words history index shape.nodes =
      λ index. published_same words words' history (history ++ []) index shape.nodes
      (λ n pos low. ap (λ w. covers_list w (listing_in (history ++ []) n) index) (others (list_at n) (λ e. omega arith)) ∙ ap (λ o. covers_list (slice_index words (list_at n)) o index) (listings n)) in (
        kept_of_set shape words seats history words' (history ++ []) i s'
            (kept_aside shape words (seats_of seats) history k i p r r' spare marked before after [] entries_at v' (seat_there before at) (entries_aside shape)
            (ap known nothing) (subst (IsLegal shape) (sym nothing) k.legal)
            (λ n pos le. subst (IsListWord shape words' (slice_index words' (list_at n))) (sym (listings n))
            (lists_same shape words history entries_at v' (omega arith) (λ m low e. omega arith) k.image.lists n pos le))
            (move reached)),
        lists_step shape words seats history b words' (history ++ []) i s s' at
            (omega arith)
            (omega arith)
            (λ index. let c = ap (λ n. one_if (nat_lt index (min n shape.entries))) claim in omega (arith, publishing index, b.blocks index, blocks index))
            (λ j t ne there. record {
              longer = λ n a h. subst (IsLongerThan a) (sym (listings n)) h;
              not_by = λ n h. subst (IsNotBy t.seat.pass) (sym (listings n)) h;
              word = λ n a pos low h. others (list_at n) (λ e. omega arith);
            })
            (λ j t ne there index h c low. others (block_at shape index + c) (λ e. omega arith))
            (record { small = small; listed = subst (λ h. HasListed shape words' h p r' offer after) (sym nothing) listed }),
      )

  pub claims : (number len v : ℕ) → IsAt (ClaimingBlock number len) → slice_index words entries_at ≡ v → AfterTurn entries_at (block_claimed shape p r spare marked number len v)
  claims number len v at read =
      let may : MayPublish history p r offer number len = listed_there (ClaimingBlock number len) at in
      let size = may.0 in
      let no_refusal : length_of r ≡ 0 = ap length_of may.1 in
      let there : 0 < uses number (known history) = reached_there (ClaimingBlock number len) at in
      let sum = b.sum in
      let room = b.room in
      cond_both (nat_le (v + len) shape.entries) _ _ (AfterTurn entries_at)
      (λ fits.
      let low = leb-true (v + len) shape.entries fits in
      claim_changes number len (v + len) r (storing number v len 0) at
      (omega (arith, claimed_storing number v len 0))
      (omega (arith, claimed_storing number v len 0))
      (λ index. let c = ap (λ n. one_if (nat_lt index (min n shape.entries))) read in omega (arith, covers_next v len index shape.entries low, covers_storing number v len 0 index))
      (reached_storing shape words history spare marked number v len 0 there)
      (λ h. reached_storing shape (set words entries_at (v + len)) history spare marked number v len 0 there)
      (omega arith)
      (listed_storing shape (set words entries_at (v + len)) history p r offer number v len 0 may low tt))
      (λ over.
      claim_changes number len (v + len) (Some len) Idle at
      (omega arith)
      (omega arith)
      (λ index. let c = ap (λ n. one_if (nat_lt index (min n shape.entries))) read in omega (arith, given_grows v len index shape.entries))
      tt (λ h. tt)
      (let m = size.1 in m)
      tt)

  -- an entry in two blocks is in none
  not_twice : (index : ℕ) → 2 ≤ published_with words history index shape.nodes + total (holds_entry index) seats → ⊥
  not_twice index two = let h = b.blocks index in let most = given_most (slice_index words entries_at) index shape.entries in absurd (omega arith)

  pub stores : (number start len stored : ℕ) → IsAt (StoringWord number start len stored)
      → Both (set words (block_at shape start + stored) (slice_index (flat offer) stored)) (with_offer (seat p r spare marked (storing number start len (stored + 1))) offer) (history ++ [])
  stores number start len stored at =
      let before = StoringWord number start len stored in
      let after = storing number start len (stored + 1) in
      let s = with_offer (seat p r spare marked before) offer in
      let s' = with_offer (seat p r spare marked after) offer in
      let place = block_at shape start + stored in
      let v' = slice_index (flat offer) stored in
      let words' = set words place v' in
      let h = listed_there before at in
      let may = h.0 in
      let size = may.0.0 in
      let fits = h.1 in
      let low = h.2 in
      let there : 0 < uses number (known history) = reached_there before at in
      let others : (n : ℕ) → n ≢ place → slice_index words' n ≡ slice_index words n = λ n ne. get_or-set_other words place n v' 0 ne in
      let listings : (n : ℕ) → listing_in (history ++ []) n ≡ listing_in history n = λ n. ap (λ l. listing_in l n) nothing in
      let lists : (n : ℕ) → n ≤ shape.nodes → slice_index words' (list_at n) ≡ slice_index words (list_at n) = λ n le. others (list_at n) (λ e. omega arith) in
      let own : (index : ℕ) → index ≡ start + stored / 3 → holds_entry index s ≡ 1 = λ index is. covered start len index (omega arith) (omega arith) in
      let same : (index : ℕ) → (index ≡ start + stored / 3 → 2 ≤ published_with words history index shape.nodes + total (holds_entry index) seats)
      → SameEntry shape words words' history (history ++ []) index =
      λ index two c small. others (block_at shape index + c) (λ e. not_twice index (two (omega arith))) in
      let room : place < length words = let long = k.long in omega arith in
      let publishing : (index : ℕ) → published_with words' (history ++ []) index shape.nodes ≡ published_with words history index shape.nodes =
      λ index. published_same words words' history (history ++ []) index shape.nodes
      (λ n pos le. ap (λ w. covers_list w (listing_in (history ++ []) n) index) (lists n le) ∙ ap (λ o. covers_list (slice_index words (list_at n)) o index) (listings n)) in
      let entries_same : slice_index words' entries_at ≡ slice_index words entries_at = others entries_at (λ e. omega arith) in (
        kept_of_set shape words seats history words' (history ++ []) i s'
            (kept_aside shape words (seats_of seats) history k i p r r spare marked before after [] place v' (seat_there before at) (block_aside shape place (omega arith))
            (ap known nothing) (subst (IsLegal shape) (sym nothing) k.legal)
            (λ n pos le. subst (IsListWord shape words' (slice_index words' (list_at n))) (sym (listings n))
            (subst (λ w. IsListWord shape words' w (listing_in history n)) (sym (lists n le))
            (list_word_stays shape words words' history (history ++ []) (slice_index words (list_at n)) (listing_in history n) k.ranges.entries_fit
            (λ index covering. same index (λ is.
            omega (arith, covering, published_one words history index shape.nodes n pos le, own index is, total_one (holds_entry index) seats i s at)))
            (k.image.lists n pos le))))
            (reached_storing shape words' history spare marked number start len (stored + 1) there)),
        lists_step shape words seats history b words' (history ++ []) i s s' at
            (let taken = ap taken_by nothing in omega (arith, claimed_storing number start len (stored + 1)))
            (let taken = ap taken_by nothing in let r0 = b.room in omega (arith, claimed_storing number start len (stored + 1)))
            (λ index. let c = ap (λ n. one_if (nat_lt index (min n shape.entries))) entries_same in
            omega (arith, publishing index, b.blocks index, covers_storing number start len (stored + 1) index))
            (λ j t ne at'. record {
              longer = λ n a l. subst (IsLongerThan a) (sym (listings n)) l;
              not_by = λ n l. subst (IsNotBy t.seat.pass) (sym (listings n)) l;
              word = λ n a pos le l. lists n le;
            })
            (λ j t ne at' index one. same index (λ is. omega (arith, one, own index is, total_two (holds_entry index) seats i j s t (λ e. ne (sym e)) at at', total_one (holds_entry index) seats i s at)))
            (record {
              small = (b.each i s at).small;
              listed = subst (λ l. HasListed shape words' l p r offer after) (sym nothing)
                  (listed_storing shape words' history p r offer number start len (stored + 1) may fits
                  (holds_stored words (block_at shape start) stored (flat offer) (omega (arith, length_flat offer)) room h.3));
            }),
      )

  -- the list is published
  pub publishes : (number start len : ℕ) → IsAt (SwappingList number start len) → slice_index words (list_at number) ≡ 0
      → Both (set words (list_at number) (list_word start len)) (with_offer (seat p r spare marked Idle) offer) (history ++ entry.List p number offer ∷ [])
  publishes number start len at empty =
      let before = SwappingList number start len in
      let s = with_offer (seat p r spare marked before) offer in
      let s' = with_offer (seat p r spare marked Idle) offer in
      let place = list_at number in
      let v' = list_word start len in
      let words' = set words place v' in
      let made = entry.List p number offer in
      let history' = history ++ made ∷ [] in
      let h = listed_there before at in
      let may = h.0 in
      let size = may.0.0 in
      let most = may.0.1 in
      let fits = h.1 in
      let there : 0 < uses number (known history) = reached_there before at in
      let small = known_small shape words (seats_of seats) history k number there in
      let low = small.1 in
      let none : listing_in history number ≡ None = no_list shape words (slice_index words place) (listing_in history number) (word_of number there) empty in
      let room : place < length words = let long = k.long in omega arith in
      let here : slice_index words' place ≡ v' = get_or-set_same words place v' 0 room in
      let others : (n : ℕ) → n ≢ place → slice_index words' n ≡ slice_index words n = λ n ne. get_or-set_other words place n v' 0 ne in
      let now : listing_in history' number ≡ Some (listing p offer) = listing_new history p number offer none in
      let elsewhere : (n : ℕ) → n ≢ number → listing_in history' n ≡ listing_in history n = λ n ne. listing_other history p number n offer (λ e. ne (sym e)) in
      let same : (index : ℕ) → SameEntry shape words words' history history' index = λ index c small'. others (block_at shape index + c) (λ e. omega arith) in
      let entries_same : slice_index words' entries_at ≡ slice_index words entries_at = others entries_at (λ e. omega arith) in
      let start_is : start_in v' ≡ start = start_of_word start len (omega arith) in
      let taken : taken_by history' ≡ taken_by history + len = omega (arith, taken-append history (made ∷ [])) in
      let publishing : (index : ℕ) → published_with words' history' index shape.nodes ≡ published_with words history index shape.nodes + covers start len index =
      λ index. published_more words words' history history' index shape.nodes number (covers start len index) small.0 low
      (let new : covers_list (slice_index words' place) (listing_in history' number) index ≡ covers start len index =
      ap (λ w. covers_list w (listing_in history' number) index) here ∙ ap (λ o. covers_list v' o index) now ∙ ap (λ n. covers n (length offer) index) start_is ∙ ap (λ n. covers start n index) size in
      let old : covers_list (slice_index words place) (listing_in history number) index ≡ 0 = ap (λ o. covers_list (slice_index words place) o index) none in
      omega arith)
      (λ n pos le ne. ap (λ w. covers_list w (listing_in history' n) index) (others (list_at n) (λ e. ne (omega arith))) ∙ ap (λ o. covers_list (slice_index words (list_at n)) o index) (elsewhere n ne)) in
      let list_there : IsListWord shape words' (slice_index words' place) (listing_in history' number) =
      subst (IsListWord shape words' (slice_index words' place)) (sym now)
      (start, here ∙ ap (λ n. list_word start n) (sym size), (let f = fits in omega arith), holds_apart words place v' (block_at shape start) (flat offer) (λ c l e. omega arith) h.2) in (
        kept_of_set shape words seats history words' history' i s'
            (kept_aside shape words (seats_of seats) history k i p r r spare marked before Idle (made ∷ []) place v' (seat_there before at) (list_aside shape number low)
            (known_more history made)
            (legal_more shape history made k.legal ((k.seat_is i (seat p r spare marked before) (seat_there before at)).pass, there, none, omega arith))
            (λ n pos le. ⊎_elim
            (λ (e : n ≡ number). subst (λ m. IsListWord shape words' (slice_index words' (list_at m)) (listing_in history' m)) (sym e) list_there)
            (λ (ne : n ≢ number).
            subst (IsListWord shape words' (slice_index words' (list_at n))) (sym (elsewhere n ne))
            (subst (λ w. IsListWord shape words' w (listing_in history n)) (sym (others (list_at n) (λ e. ne (omega arith))))
            (list_word_stays shape words words' history history' (slice_index words (list_at n)) (listing_in history n) k.ranges.entries_fit (λ index covering. same index) (k.image.lists n pos le))))
            (cases_eq n number))
            tt),
        lists_step shape words seats history b words' history' i s s' at
            (omega arith)
            (let r0 = b.room in omega arith)
            (λ index. let c = ap (λ n. one_if (nat_lt index (min n shape.entries))) entries_same in omega (arith, publishing index, b.blocks index))
            (λ j t ne at'. record {
              longer = λ n a l. ⊎_elim (λ (e : n ≡ number). absurd (subst (IsLongerThan a) (ap (listing_in history) e ∙ none) l)) (λ (no : n ≢ number). subst (IsLongerThan a) (sym (elsewhere n no)) l) (cases_eq n number);
              not_by = λ n l. ⊎_elim
                  (λ (e : n ≡ number). subst (λ m. IsNotBy t.seat.pass (listing_in history' m)) (sym e) (subst (IsNotBy t.seat.pass) (sym now) (other_pass shape words seats history k i j s t (λ e'. ne (sym e')) at at')))
                  (λ (no : n ≢ number). subst (IsNotBy t.seat.pass) (sym (elsewhere n no)) l) (cases_eq n number);
              word = λ n a pos le l. others (list_at n) (λ e. subst (IsLongerThan a) (let n_is : n ≡ number = omega arith in ap (listing_in history) n_is ∙ none) l);
            })
            (λ j t ne at' index one. same index)
            (record { small = (b.each i s at).small; listed = tt }),
      )

  -- the list is lost to another pass's
  pub loses : (number start len v : ℕ) → IsAt (SwappingList number start len) → slice_index words (list_at number) ≡ v → 0 < v
      → Both (set words (list_at number) v) (with_offer (seat p r spare marked Idle) offer) (history ++ entry.Lost p number len ∷ [])
  loses number start len v at read some_list =
      let before = SwappingList number start len in
      let s = with_offer (seat p r spare marked before) offer in
      let s' = with_offer (seat p r spare marked Idle) offer in
      let made = entry.Lost p number len in
      let history' = history ++ made ∷ [] in
      let h = listed_there before at in
      let may = h.0 in
      let most = may.0.1 in
      let there : 0 < uses number (known history) = reached_there before at in
      let listings : (n : ℕ) → listing_in history' n ≡ listing_in history n = λ n. listing_more history made n refl in
      let taken : taken_by history' ≡ taken_by history + len = omega (arith, taken-append history (made ∷ [])) in
      let publishing : (index : ℕ) → published_with words history' index shape.nodes ≡ published_with words history index shape.nodes =
      λ index. published_same words words history history' index shape.nodes (λ n pos le. ap (λ o. covers_list (slice_index words (list_at n)) o index) (listings n)) in
      unchanged (list_at number) v s' history' read (
        kept_of_set shape words seats history words history' i s'
            (kept_quiet shape words (seats_of seats) history k i p r spare marked before Idle (made ∷ []) (seat_there before at) (known_more history made) listings
            (legal_more shape history made k.legal (
              (k.seat_is i (seat p r spare marked before) (seat_there before at)).pass,
              of_another shape words (slice_index words (list_at number)) p (listing_in history number) (word_of number there) (omega arith) may.2,
              most,
            ))
            tt),
        lists_step shape words seats history b words history' i s s' at
            (omega arith)
            (let r0 = b.room in omega arith)
            (λ index. omega (arith, publishing index, b.blocks index))
            (λ j t ne at'. record {
              longer = λ n a l. subst (IsLongerThan a) (sym (listings n)) l;
              not_by = λ n l. subst (IsNotBy t.seat.pass) (sym (listings n)) l;
              word = λ n a pos le l. refl;
            })
            (λ j t ne at' index one c low. refl)
            (record { small = (b.each i s at).small; listed = tt }),
      )
