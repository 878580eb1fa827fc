-- Whatever a seat's next act is, it keeps what is kept.
use Rattle.std.proofs.Common.{◌≡◌, ℕ, zero, suc, ◌+◌, ◌<◌, ◌≤◌, ◌==◌, nat_lt, ◌⊎◌, Bool, true, false, List, [], ◌∷◌, ◌++◌, length, set, refl, sym, ap, ◌∙◌, subst, arith, slice_index, append-nil, None, Some, inl, inr, ⊎_elim, length-append, ◌*◌, Option}
use mathlib.Core.Option.{some}
use lib.ListN.{get_elem?}
use Rattle.std.proofs.lemmas.List.{get_or-set_same, get_or-set_other, set-get_or}
use Rattle.std.proofs.lemmas.Bool.{ltb-true, ltb-false, eqb-true, cond_both, false_from_ne_true, eqb-false, true≢false}
use Rattle.std.proofs.lemmas.Bool.Decides.{nat_tests}
use Rattle.intern_core.specs.declared.shape.Shape.{Shape}
use Rattle.intern_core.specs.declared.history.Key.{Key}
use Rattle.intern_core.specs.declared.history.EntryWords.{EntryWords}
use Rattle.intern_core.specs.declared.history.Reply.TheVariants.{Num, Full}
use Rattle.intern_core.specs.declared.history.Entry.{Entry}
use Rattle.intern_core.specs.declared.history.Entry.TheVariants.{Call}
use Rattle.intern_core.specs.declared.seat.Seat.{Seat}
use Rattle.intern_core.specs.declared.seat.Phase.{Phase}
use Rattle.intern_core.specs.declared.seat.Phase.TheVariants.{Idle, Claiming, StoringOne, StoringTwo, Linking, Swapping, AtOne, AtTwo, LookingOne, LookingTwo, MeasuringList, FindingEntry, ReadingOne, ReadingTwo, ReadingThree, Offering, ClaimingBlock, StoringWord, SwappingList}
use Rattle.intern_core.specs.Layout.{claim_at, one_at, two_at, link_at, bucket_of, word_count}
use Rattle.intern_core.specs.History.{Known, known, number_in, with_key, is_same_key, MayAnswer, listing_in, IsLegal}
use Rattle.intern_core.specs.Turns.{Turn, seat, next_place, turn_of, turn_in, is_on_lists, linked, swapped, FitsTurn}
use Rattle.intern_core.specs.Kept.{total, has_spare, is_marked, Stored, Ready, IsWalk, HasFound, HasReached, Kept}
use Rattle.intern_core.proofs.Sums.{total_one, total_below}
use Rattle.intern_core.proofs.Histories.{known_more, legal_more, listing_more, same_key-is, same_key-self}
use Rattle.intern_core.proofs.Chains.{bucket_small, length_filter, link_within}
use Rattle.intern_core.proofs.Walks.{walk_begins, walk_passes, walk_ends, walk_finds, walk_misses, walk_hits, found_words, found_known, walk_place}
use Rattle.intern_core.proofs.Steps.{kept_quiet, known_small, spare_alone, kept_store, kept_claim_won, kept_claim_full, kept_swap_won}
use Rattle.intern_core.specs.Image.{in_bucket}
use Rattle.intern_core.specs.Pace.{start_pace, pace}

module _ (shape : Shape) (words : List ℕ) (seats : List Seat) (history : List Entry) (k : Kept shape words seats history) (i : ℕ) where
  -- what is kept after a turn at a place
  abbrev After : ℕ → Turn → Type 0
  After place t = Kept shape (set words place t.word) (set seats i t.seat) (history ++ t.made)

  -- a load
  loads : (place v p : ℕ) (r : Option ℕ) (spare : ℕ) (marked : Bool) (before after : Phase) (made : List Entry) → get_elem? seats i ≡ some (seat p r spare marked before) → slice_index words place ≡ v
      → known (history ++ made) ≡ known history → ((n : ℕ) → listing_in (history ++ made) n ≡ listing_in history n) → IsLegal shape (history ++ made) → HasReached shape words (known history) spare marked after
      → Kept shape (set words place v) (set seats i (seat p r spare marked after)) (history ++ made)
  loads place v p r spare marked before after made at read same lists legal reached =
      subst (λ ws. Kept shape ws (set seats i (seat p r spare marked after)) (history ++ made))
      (sym (ap (set words place) (sym read) ∙ set-get_or words place 0))
      (kept_quiet shape words seats history k i p r spare marked before after made at same lists legal reached)

  -- a load that makes no entry
  plain : (place v p : ℕ) (r : Option ℕ) (spare : ℕ) (marked : Bool) (before after : Phase) → get_elem? seats i ≡ some (seat p r spare marked before) → slice_index words place ≡ v
      → HasReached shape words (known history) spare marked after → Kept shape (set words place v) (set seats i (seat p r spare marked after)) (history ++ [])
  plain place v p r spare marked before after at read reached =
      loads place v p r spare marked before after [] at read (ap known (append-nil history)) (λ n. ap (λ l. listing_in l n) (append-nil history)) (subst (IsLegal shape) (sym (append-nil history)) k.legal) reached

  -- nothing was made
  quiet : (ws : List ℕ) (ss : List Seat) → Kept shape ws ss history → Kept shape ws ss (history ++ [])
  quiet ws ss h = subst (Kept shape ws ss) (sym (append-nil history)) h

  one_each : (t : Seat) → (t.marked ≡ true → (t.spare ≡ 0) × (shape.nodes ≤ slice_index words claim_at)) → has_spare t + is_marked t ≤ 1
  one_each t mark = cases t.spare t.marked (λ e. (mark e).0) where
    cases : (spare : ℕ) (marked : Bool) → (marked ≡ true → spare ≡ 0) → has_spare (seat 0 None spare marked Idle) + is_marked (seat 0 None spare marked Idle) ≤ 1
    cases zero marked h = elim marked as (λ m. has_spare (seat 0 None 0 m Idle) + is_marked (seat 0 None 0 m Idle) ≤ 1) [ true ↦ omega arith | false ↦ omega arith ]
    cases (suc n) true h = absurd (let e = h refl in omega arith)
    cases (suc n) false h = let one : has_spare (seat 0 None (suc n) false Idle) ≡ 1 = grind (arith, nat_tests) in omega arith

  -- a seat that is marked full and has passed its whole bucket: all numbers but the others' spares are known
  answers_full : (p : ℕ) (r : Option ℕ) (spare : ℕ) (phase : Phase) (key : Key) → get_elem? seats i ≡ some (seat p r spare true phase) → number_in (known history) key ≡ None
      → MayAnswer shape (known history) (number_in (known history) key) Full
  answers_full p r spare phase key at unknown =
      let mark = (k.seat_is i (seat p r spare true phase) at).mark refl in
      let high = mark.1 in
      let one : 1 ≤ total is_marked seats = total_one is_marked seats i (seat p r spare true phase) at in
      let both : total has_spare seats + total is_marked seats ≤ length seats =
      total_below has_spare is_marked seats (λ j t there. one_each t (k.seat_is j t there).mark) in
      let few = k.few in
      let full = k.shared.full in
      subst (λ o. MayAnswer shape (known history) o Full) (sym unknown) (omega arith)

  links : (p : ℕ) (r : Option ℕ) (spare from steps v : ℕ) (marked : Bool) (key : Key) → get_elem? seats i ≡ some (seat p r spare marked (Linking key from steps))
      → slice_index words (link_at shape (bucket_of shape key) from) ≡ v → After (link_at shape (bucket_of shape key) from) (linked p r spare marked key from steps v)
  links p r spare from steps zero true key at read =
      let stood = (k.seat_is i (seat p r spare true (Linking key from steps)) at).reached in
      let w = stood.1 in
      let whole = walk_ends shape words (known history) key from steps w (λ n h. (known_small shape words seats history k n h).0)
      (k.image.chains (bucket_of shape key) (bucket_small shape key k.ranges.bits_fit)) read in
      let unknown = walk_misses shape words (known history) key w.passed w.others whole in
      loads (link_at shape (bucket_of shape key) from) 0 p r spare true (Linking key from steps) Idle (Call p key Full ∷ []) at read
      (known_more history (Call p key Full))
      (λ n. listing_more history (Call p key Full) n refl)
      (legal_more shape history (Call p key Full) k.legal ((k.seat_is i (seat p r spare true (Linking key from steps)) at).pass, answers_full p r spare (Linking key from steps) key at unknown))
      tt
  links p r spare from steps zero false key at read =
      let stood = (k.seat_is i (seat p r spare false (Linking key from steps)) at).reached in
      plain (link_at shape (bucket_of shape key) from) 0 p r spare false (Linking key from steps) (Swapping key from steps) at read (refl, stood.0, stood.1)
  links p r spare from steps (suc n) true key at read =
      let stood = (k.seat_is i (seat p r spare true (Linking key from steps)) at).reached in
      plain (link_at shape (bucket_of shape key) from) (suc n) p r spare true (Linking key from steps) (AtOne key (suc n) steps) at read (
        stood.0,
        walk_finds shape words (known history) key from steps (suc n) stood.1 (omega arith)
            (k.image.chains (bucket_of shape key) (bucket_small shape key k.ranges.bits_fit)) read,
      )
  links p r spare from steps (suc n) false key at read =
      let stood = (k.seat_is i (seat p r spare false (Linking key from steps)) at).reached in
      plain (link_at shape (bucket_of shape key) from) (suc n) p r spare false (Linking key from steps) (AtOne key (suc n) steps) at read (
        stood.0,
        walk_finds shape words (known history) key from steps (suc n) stood.1 (omega arith)
            (k.image.chains (bucket_of shape key) (bucket_small shape key k.ranges.bits_fit)) read,
      )

  swaps : (p : ℕ) (r : Option ℕ) (spare from steps v : ℕ) (marked : Bool) (key : Key) → get_elem? seats i ≡ some (seat p r spare marked (Swapping key from steps))
      → slice_index words (link_at shape (bucket_of shape key) from) ≡ v → After (link_at shape (bucket_of shape key) from) (swapped p r spare marked key steps v)
  swaps p r spare from steps zero marked key at read = kept_swap_won shape words seats history k i p r spare from steps marked key at read
  swaps p r spare from steps (suc n) marked key at read =
      let stood = (k.seat_is i (seat p r spare marked (Swapping key from steps)) at).reached in
      plain (link_at shape (bucket_of shape key) from) (suc n) p r spare marked (Swapping key from steps) (AtOne key (suc n) steps) at read (
        subst (λ m. Ready words spare m key) (sym stood.0) stood.1,
        walk_finds shape words (known history) key from steps (suc n) stood.2 (omega arith)
            (k.image.chains (bucket_of shape key) (bucket_small shape key k.ranges.bits_fit)) read,
      )

  pub kept_turn_in : (offer : List EntryWords) (p : ℕ) (r : Option ℕ) (spare : ℕ) (marked : Bool) (phase : Phase) → is_on_lists phase ≡ false → get_elem? seats i ≡ some (seat p r spare marked phase)
      → After (next_place shape (seat p r spare marked phase)) (turn_in shape offer p r spare marked phase (slice_index words (next_place shape (seat p r spare marked phase))))
  kept_turn_in offer p r spare marked Idle off at = plain claim_at (slice_index words claim_at) p r spare marked Idle Idle at refl tt
  kept_turn_in offer p r spare marked (Claiming key) off at =
      let v = slice_index words claim_at in
      cond_both (nat_lt v shape.nodes) _ _ (After claim_at)
      (λ lt. quiet _ _ (kept_claim_won shape words seats history k i p r spare marked key at (ltb-true v shape.nodes lt)))
      (λ ge. quiet _ _ (kept_claim_full shape words seats history k i p r spare marked key at (ltb-false v shape.nodes ge)))
  kept_turn_in offer p r spare marked (StoringOne key) off at =
      let stood = (k.seat_is i (seat p r spare marked (StoringOne key)) at).reached in
      let alone = spare_alone shape words seats history k i (seat p r spare marked (StoringOne key)) at stood.0 in
      let small = alone.0 in
      let room : one_at spare < length words = let h = k.long in omega arith in
      quiet _ _ (kept_store shape words seats history k i p r spare (one_at spare) key.one marked (StoringOne key) (StoringTwo key) at stood.0 (omega arith) (omega arith)
      (stood.0, stood.1, get_or-set_same words (one_at spare) key.one 0 room))
  kept_turn_in offer p r spare marked (StoringTwo key) off at =
      let stood = (k.seat_is i (seat p r spare marked (StoringTwo key)) at).reached in
      let alone = spare_alone shape words seats history k i (seat p r spare marked (StoringTwo key)) at stood.0 in
      let small = alone.0 in
      let room : two_at spare < length words = let h = k.long in omega arith in
      let stored : Stored (set words (two_at spare) key.two) spare key =
      (stood.0, get_or-set_other words (two_at spare) (one_at spare) key.two 0 (λ e. omega arith) ∙ stood.2, get_or-set_same words (two_at spare) key.two 0 room) in
      quiet _ _ (kept_store shape words seats history k i p r spare (two_at spare) key.two marked (StoringTwo key) (Linking key 0 0) at stood.0 (omega arith) (omega arith)
      (subst (λ m. Ready (set words (two_at spare) key.two) spare m key) (sym stood.1) stored, walk_begins shape (known history) key))
  kept_turn_in offer p r spare marked (Linking key from steps) off at = links p r spare from steps _ marked key at refl
  kept_turn_in offer p r spare marked (Swapping key from steps) off at = swaps p r spare from steps _ marked key at refl
  kept_turn_in offer p r spare marked (AtOne key node steps) off at =
      let stood = (k.seat_is i (seat p r spare marked (AtOne key node steps)) at).reached in
      let v = slice_index words (one_at node) in
      let f = stood.1 in
      let is = found_words shape words (known history) key node steps f k.image.keys in
      plain (one_at node) v p r spare marked (AtOne key node steps) _ at refl
      (cond_both (v == key.one) _ _ (HasReached shape words (known history) spare marked)
      (λ same. (stood.0, f, eqb-true v key.one same))
      (λ other. (
        stood.0,
        walk_passes shape (known history) key node steps f
            (false_from_ne_true (is_same_key f.here.key key) (λ t. eqb-false v key.one other (is.0 ∙ ap (λ (q : Key). q.one) (same_key-is f.here.key key t)))),
      )))
  kept_turn_in offer p r spare marked (AtTwo key node steps) off at =
      let stood = (k.seat_is i (seat p r spare marked (AtTwo key node steps)) at).reached in
      let v = slice_index words (two_at node) in
      let f = stood.1 in
      let is = found_words shape words (known history) key node steps f k.image.keys in
      cond_both (v == key.two) _ _ (After (two_at node))
      (λ same.
      let hit : number_in (known history) key ≡ Some node = walk_hits shape words (known history) key node steps f
      (same_key-self f.here.key key (sym is.0 ∙ stood.2) (sym is.1 ∙ eqb-true v key.two same)) in
      loads (two_at node) v p r spare marked (AtTwo key node steps) Idle (Call p key (Num node) ∷ []) at refl
      (known_more history (Call p key (Num node)) ∙ ap (with_key (known history) key node) hit)
      (λ n. listing_more history (Call p key (Num node)) n refl)
      (legal_more shape history (Call p key (Num node)) k.legal ((k.seat_is i (seat p r spare marked (AtTwo key node steps)) at).pass, subst (λ o. MayAnswer shape (known history) o (Num node)) (sym hit) refl))
      tt)
      (λ other.
      plain (two_at node) v p r spare marked (AtTwo key node steps) (Linking key node (steps + 1)) at refl (
        stood.0,
        walk_passes shape (known history) key node steps f
            (false_from_ne_true (is_same_key f.here.key key) (λ t. eqb-false v key.two other (is.1 ∙ ap (λ (q : Key). q.two) (same_key-is f.here.key key t)))),
      ))
  kept_turn_in offer p r spare marked (LookingOne node) off at =
      let stood = (k.seat_is i (seat p r spare marked (LookingOne node)) at).reached in
      plain (one_at node) (slice_index words (one_at node)) p r spare marked (LookingOne node) (LookingTwo node (slice_index words (one_at node))) at refl (stood, refl)
  kept_turn_in offer p r spare marked (LookingTwo node one) off at =
      plain (two_at node) (slice_index words (two_at node)) p r spare marked (LookingTwo node one) Idle at refl tt
  kept_turn_in offer p r spare marked (MeasuringList number) off here = absurd (true≢false off)
  kept_turn_in offer p r spare marked (FindingEntry number at) off here = absurd (true≢false off)
  kept_turn_in offer p r spare marked (ReadingOne number at index) off here = absurd (true≢false off)
  kept_turn_in offer p r spare marked (ReadingTwo number at index one) off here = absurd (true≢false off)
  kept_turn_in offer p r spare marked (ReadingThree number at index one two) off here = absurd (true≢false off)
  kept_turn_in offer p r spare marked (Offering number len) off here = absurd (true≢false off)
  kept_turn_in offer p r spare marked (ClaimingBlock number len) off here = absurd (true≢false off)
  kept_turn_in offer p r spare marked (StoringWord number start len stored) off here = absurd (true≢false off)
  kept_turn_in offer p r spare marked (SwappingList number start len) off here = absurd (true≢false off)

  -- the turn of the seat i
  pub kept_turn : (offer : List EntryWords) (s : Seat) → is_on_lists s.phase ≡ false → get_elem? seats i ≡ some s
      → After (next_place shape s) (turn_of shape offer s (slice_index words (next_place shape s)))
  kept_turn offer s off at = kept_turn_in offer s.pass s.refused s.spare s.marked s.phase off at

  -- the claim word stays small, so it never wraps
  pub claim_small : slice_index words claim_at ≤ shape.nodes + shape.passes
  claim_small =
      let both : total has_spare seats + total is_marked seats ≤ length seats = total_below has_spare is_marked seats (λ j t there. one_each t (k.seat_is j t there).mark) in
      let few = k.few in
      let full = k.shared.full in
      let all = k.shared.all in
      omega arith

  -- the numbers of a seat are those of the table, so its next word is there, and a turn that finds that word can go on
  pub turn_fits : (offer : List EntryWords) (p : ℕ) (r : Option ℕ) (spare : ℕ) (marked : Bool) (phase : Phase) → is_on_lists phase ≡ false → get_elem? seats i ≡ some (seat p r spare marked phase)
      → (next_place shape (seat p r spare marked phase) < word_count shape) × FitsTurn shape offer phase (slice_index words (next_place shape (seat p r spare marked phase))) × (spare ≤ shape.nodes)
  turn_fits offer p r spare marked phase off at =
      let own : spare ≤ shape.nodes = ⊎_elim (λ z. omega arith) (λ pos. (spare_alone shape words seats history k i (seat p r spare marked phase) at pos).0) (zero_or_more spare) in
      let st = (k.seat_is i (seat p r spare marked phase) at).reached in
      let both = fits own phase off st in
      (both.0, both.1, own) where
        zero_or_more : (n : ℕ) → (n ≡ 0) ⊎ (0 < n)
        zero_or_more zero = inl refl
        zero_or_more (suc n) = inr (omega arith)

        few_known : (key : Key) (node steps : ℕ) → HasFound shape (known history) key node steps → steps < shape.nodes
        few_known key node steps f =
            let full = k.shared.full in
            let b = bucket_of shape key in
            let short = length_filter (λ (x : Known). bucket_of shape x.key == b) (known history) in
            let split : length (in_bucket shape b (known history)) ≡ length f.passed + length (f.here ∷ f.rest) = ap length f.chain ∙ length-append f.passed (f.here ∷ f.rest) in
            let count = f.count in
            omega arith

        node_low : (key : Key) (node steps : ℕ) → HasFound shape (known history) key node steps → node ≤ shape.nodes
        node_low key node steps f = (known_small shape words seats history k node (found_known shape (known history) key node steps f)).1

        linked_low : (key : Key) (from steps : ℕ) → IsWalk shape (known history) key from steps
            → (link_at shape (bucket_of shape key) from < word_count shape) × (slice_index words (link_at shape (bucket_of shape key) from) ≤ shape.nodes)
        linked_low key from steps w =
            let b = bucket_of shape key in
            let small = bucket_small shape key k.ranges.bits_fit in
            let low : from ≤ shape.nodes = ⊎_elim (λ e. omega arith) (λ h. (known_small shape words seats history k from h).1) (walk_place shape words (known history) key from steps w) in (
              link_within shape b from small low,
              ⊎_elim (λ z. omega arith)
                  (λ pos. node_low key (slice_index words (link_at shape b from)) steps
                  (walk_finds shape words (known history) key from steps (slice_index words (link_at shape b from)) w pos (k.image.chains b small) refl))
                  (zero_or_more (slice_index words (link_at shape b from))),
            )

        fits : spare ≤ shape.nodes → (phase : Phase) → is_on_lists phase ≡ false → HasReached shape words (known history) spare marked phase
            → (next_place shape (seat p r spare marked phase) < word_count shape) × FitsTurn shape offer phase (slice_index words (next_place shape (seat p r spare marked phase)))
        fits own Idle off st = (omega arith, tt)
        fits own (Claiming key) off st = (omega arith, (let low = claim_small in let a = k.ranges.nodes_fit in let b = k.ranges.passes_fit in omega arith))
        fits own (StoringOne key) off st = (omega arith, tt)
        fits own (StoringTwo key) off st = (omega arith, tt)
        fits own (Linking key from steps) off st = linked_low key from steps st.1
        fits own (Swapping key from steps) off st = linked_low key from steps st.2
        fits own (AtOne key node steps) off st = (let n = node_low key node steps st.1 in omega arith, few_known key node steps st.1)
        fits own (AtTwo key node steps) off st = (let n = node_low key node steps st.1 in omega arith, few_known key node steps st.1)
        fits own (LookingOne node) off st = (let n = known_small shape words seats history k node st in let m = n.1 in omega arith, tt)
        fits own (LookingTwo node one) off st = (let n = known_small shape words seats history k node st.0 in let m = n.1 in omega arith, tt)
        fits own (MeasuringList number) off st = absurd (true≢false off)
        fits own (FindingEntry number at) off st = absurd (true≢false off)
        fits own (ReadingOne number at index) off st = absurd (true≢false off)
        fits own (ReadingTwo number at index one) off st = absurd (true≢false off)
        fits own (ReadingThree number at index one two) off st = absurd (true≢false off)
        fits own (Offering number len) off st = absurd (true≢false off)
        fits own (ClaimingBlock number len) off st = absurd (true≢false off)
        fits own (StoringWord number start len stored) off st = absurd (true≢false off)
        fits own (SwappingList number start len) off st = absurd (true≢false off)

  -- a walk is no longer than the table
  pub pace_fits : (p : ℕ) (r : Option ℕ) (spare : ℕ) (marked : Bool) (phase : Phase) → get_elem? seats i ≡ some (seat p r spare marked phase)
      → (pace marked phase ≤ 4 * shape.nodes + 6) × ((key : Key) → phase ≡ StoringTwo key → marked ≡ false) × ((key : Key) → phase ≡ Claiming key → marked ≡ false)
  pace_fits p r spare marked phase at = all phase (k.seat_is i (seat p r spare marked phase) at).reached where
    starts : start_pace marked ≤ 3
    starts = elim marked as (λ b. start_pace b ≤ 3) [ true ↦ omega arith | false ↦ omega arith ]

    short : (key : Key) → length (in_bucket shape (bucket_of shape key) (known history)) ≤ shape.nodes
    short key = let full = k.shared.full in let b = bucket_of shape key in
        let h = length_filter (λ (x : Known). bucket_of shape x.key == b) (known history) in omega arith

    walked : (key : Key) (from steps : ℕ) → IsWalk shape (known history) key from steps → steps ≤ shape.nodes
    walked key from steps w = let c = w.count in let split : length (in_bucket shape (bucket_of shape key) (known history)) ≡ length w.passed + length w.rest = ap length w.chain ∙ length-append w.passed w.rest in
        let s = short key in omega arith

    found : (key : Key) (node steps : ℕ) → HasFound shape (known history) key node steps → steps < shape.nodes
    found key node steps f = let c = f.count in let split : length (in_bucket shape (bucket_of shape key) (known history)) ≡ length f.passed + length (f.here ∷ f.rest) = ap length f.chain ∙ length-append f.passed (f.here ∷ f.rest) in
        let s = short key in omega arith

    all : (ph : Phase) → HasReached shape words (known history) spare marked ph → (pace marked ph ≤ 4 * shape.nodes + 6) × ((key : Key) → ph ≡ StoringTwo key → marked ≡ false) × ((key : Key) → ph ≡ Claiming key → marked ≡ false)
    all Idle st = (omega arith, (λ q e. absurd cc), (λ q e. absurd cc))
    all (Claiming key) st = (omega arith, (λ q e. absurd cc), (λ q e. st.1))
    all (StoringOne key) st = (omega arith, (λ q e. absurd cc), (λ q e. absurd cc))
    all (StoringTwo key) st = (omega arith, (λ q e. st.1), (λ q e. absurd cc))
    all (Linking key from steps) st = ((let w = walked key from steps st.1 in let s = starts in omega arith), (λ q e. absurd cc), (λ q e. absurd cc))
    all (Swapping key from steps) st = ((let w = walked key from steps st.2 in let s = starts in omega arith), (λ q e. absurd cc), (λ q e. absurd cc))
    all (AtOne key node steps) st = ((let w = found key node steps st.1 in let s = starts in omega arith), (λ q e. absurd cc), (λ q e. absurd cc))
    all (AtTwo key node steps) st = ((let w = found key node steps st.1 in let s = starts in omega arith), (λ q e. absurd cc), (λ q e. absurd cc))
    all (LookingOne node) st = (omega arith, (λ q e. absurd cc), (λ q e. absurd cc))
    all (LookingTwo node one) st = (omega arith, (λ q e. absurd cc), (λ q e. absurd cc))
    all (MeasuringList number) st = (omega arith, (λ q e. absurd cc), (λ q e. absurd cc))
    all (FindingEntry number at) st = (omega arith, (λ q e. absurd cc), (λ q e. absurd cc))
    all (ReadingOne number at index) st = (omega arith, (λ q e. absurd cc), (λ q e. absurd cc))
    all (ReadingTwo number at index one) st = (omega arith, (λ q e. absurd cc), (λ q e. absurd cc))
    all (ReadingThree number at index one two) st = (omega arith, (λ q e. absurd cc), (λ q e. absurd cc))
    all (Offering number len) st = (omega arith, (λ q e. absurd cc), (λ q e. absurd cc))
    all (ClaimingBlock number len) st = (omega arith, (λ q e. absurd cc), (λ q e. absurd cc))
    all (StoringWord number start len stored) st = (omega arith, (λ q e. absurd cc), (λ q e. absurd cc))
    all (SwappingList number start len) st = (omega arith, (λ q e. absurd cc), (λ q e. absurd cc))
