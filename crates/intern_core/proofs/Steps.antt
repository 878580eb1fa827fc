-- Each act keeps what is kept.
use Rattle.std.proofs.Common.{◌≡◌, ◌≢◌, ℕ, zero, suc, ◌+◌, ◌<◌, ◌≤◌, ◌==◌, nat_le, nat_lt, min, ◌⊎◌, inl, inr, ⊎_elim, Bool, true, false, cond, List, [], ◌∷◌, ◌++◌, length, set, refl, sym, ap, ◌∙◌, subst, arith, slice_index, append-nil, length-append, length-set, Option, None, ◌^◌}
use mathlib.Core.Option.{some}
use lib.ListN.{get_elem?}
use Rattle.std.proofs.lemmas.List.{get_or-set_same, get_or-set_other}
use Rattle.std.proofs.lemmas.Bool.{true≢false, cases_eq, cases_lt, eq-eqb, ne_eqb}
use Rattle.std.proofs.lemmas.Bool.Decides.{nat_tests}
use Rattle.intern_core.specs.declared.shape.Shape.{Shape}
use Rattle.intern_core.specs.declared.history.Key.{Key}
use Rattle.intern_core.specs.declared.history.Entry.{Entry}
use Rattle.intern_core.specs.declared.seat.Seat.{Seat}
use Rattle.intern_core.specs.declared.seat.Phase.{Phase}
use Rattle.intern_core.specs.declared.seat.Phase.TheVariants.{Idle, Claiming, StoringOne, Linking, Swapping}
use Rattle.intern_core.specs.Layout.{claim_at, one_at, two_at, next_at, list_at, link_at, block_at, bucket_of, word_count}
use Rattle.intern_core.specs.History.{Known, known, uses, one_if, IsLegal, number_in, with_key, MayAnswer, listing_in}
use Rattle.intern_core.specs.Image.{in_bucket, IsImage, IsChain, HaveKeys, IsListWord}
use Rattle.intern_core.specs.Turns.{seat}
use Rattle.intern_core.specs.Kept.{total, is_pass, keeps, has_spare, is_marked, given_out, HasReached, IsSeat, Shared, Kept, last_of}
use Rattle.intern_core.proofs.Sums.{total_set, total_same, total_one, total_two, at_set}
use Rattle.intern_core.proofs.Chains.{chain_same, keys_same, uses_filter, chain_grows, keys_more, bucket_small, keys_off_links, claim_off_links, next_off_links, link_within, links_of_two, uses_of_two, spare_link}
use Rattle.intern_core.proofs.Walks.{walk_begins, reached_words, walk_ends, walk_misses, walk_place, walk_last, reached_more}
use Rattle.std.proofs.lemmas.List.Elements.{filter-append}
use Rattle.intern_core.specs.declared.history.Reply.TheVariants.{Num}
use Rattle.intern_core.specs.declared.history.Entry.TheVariants.{Call}
use Rattle.intern_core.proofs.Histories.{known_more, legal_more, listing_more, uses-append}
use Rattle.intern_core.proofs.Lists.{lists_same}

-- at a seat that changed, and at the others
module _ (seats : List Seat) (i : ℕ) (s : Seat) (F : Seat → Type 0) where
  pub each_seat : F s → ((j : ℕ) (t : Seat) → j ≢ i → get_elem? seats j ≡ some t → F t) → (j : ℕ) (t : Seat) → get_elem? (set seats i s) j ≡ some t → F t
  each_seat here others j t at =
      ⊎_elim (λ (h : (j ≡ i) × (s ≡ t)). subst F h.1 here) (λ (h : (j ≢ i) × (get_elem? seats j ≡ some t)). others j t h.0 h.1) (at_set seats i j s t at)

module _ (shape : Shape) (words : List ℕ) (seats : List Seat) (history : List Entry) (k : Kept shape words seats history) where
  -- the same words, and a seat that keeps its spare and its mark
  pub kept_quiet : (i p : ℕ) (r : Option ℕ) (spare : ℕ) (marked : Bool) (before after : Phase) (made : List Entry) → get_elem? seats i ≡ some (seat p r spare marked before)
      → known (history ++ made) ≡ known history → ((n : ℕ) → listing_in (history ++ made) n ≡ listing_in history n)
      → IsLegal shape (history ++ made) → HasReached shape words (known history) spare marked after
      → Kept shape words (set seats i (seat p r spare marked after)) (history ++ made)
  kept_quiet i p r spare marked before after made at same lists legal reached =
      let old = seat p r spare marked before in
      let new = seat p r spare marked after in
      let seen = known history in
      let sum : (f : Seat → ℕ) → f new ≡ f old → total f (set seats i new) ≡ total f seats = λ f e. total_same f seats i old new at e in
      let sitting = k.seat_is i old at in
      record {
        ranges = k.ranges;
        long = k.long;
        few = let h = k.few in omega (arith, length-set seats i new);
        apart = λ n. let h = k.apart n in omega (arith, sum (is_pass n) refl);
        legal = legal;
        image = record {
          chains = λ b low. subst (λ l. IsChain shape words b 0 (in_bucket shape b l)) (sym same) (k.image.chains b low);
          keys = subst (HaveKeys words) (sym same) k.image.keys;
          lists = λ n pos le. subst (IsListWord shape words (slice_index words (list_at n))) (sym (lists n)) (k.image.lists n pos le);
        };
        shared = subst (Shared shape words (set seats i new)) (sym same) (record {
          each = λ n h. ap (λ t. uses n seen + t) (sum (keeps n) refl) ∙ k.shared.each n h;
          numbers = k.shared.numbers;
          all = let h = k.shared.all in omega (arith, sum has_spare refl, sum is_marked refl);
          full = ap (λ t. length seen + t) (sum has_spare refl) ∙ k.shared.full;
          fresh = k.shared.fresh;
        });
        seat_is = subst (λ (l : List Known). (j : ℕ) (t : Seat) → get_elem? (set seats i new) j ≡ some t → IsSeat shape words l t) (sym same)
            (each_seat seats i new (IsSeat shape words seen) (record { pass = sitting.pass; mark = sitting.mark; reached = reached }) (λ j t ne there. k.seat_is j t there));
      }

  -- each known number is one of the table
  pub known_small : (n : ℕ) → 0 < uses n (known history) → (0 < n) × (n ≤ shape.nodes)
  known_small zero h = absurd (let z = k.shared.numbers in omega arith)
  known_small (suc n) h = let e = k.shared.each (suc n) (omega arith) in (omega arith, grind (arith, nat_tests))

  pub known_once : (n : ℕ) → uses n (known history) ≤ 1
  known_once zero = let z = k.shared.numbers in omega arith
  known_once (suc n) = let e = k.shared.each (suc n) (omega arith) in grind (arith, nat_tests)

  -- a spare is a number of the table that is not known, and no other seat's
  pub spare_alone : (i : ℕ) (s : Seat) → get_elem? seats i ≡ some s → 0 < s.spare
      → (s.spare ≤ shape.nodes) × (uses s.spare (known history) ≡ 0) × ((j : ℕ) (t : Seat) → j ≢ i → get_elem? seats j ≡ some t → t.spare ≢ s.spare)
  spare_alone i s at some_spare =
      let e = k.shared.each s.spare some_spare in
      let own : keeps s.spare s ≡ 1 = grind (arith, nat_tests) in
      let one = total_one (keeps s.spare) seats i s at in
      let below : one_if (nat_le s.spare (given_out shape words)) ≤ 1 = grind (arith, nat_tests) in (
        (let least : one_if (nat_le s.spare (given_out shape words)) ≡ 1 = omega arith in grind (arith, nat_tests)),
        omega arith,
        (λ j t ne there same.
            let two = total_two (keeps s.spare) seats j i t s ne there at in
            let other : keeps s.spare t ≡ 1 = subst (λ n. one_if (n == s.spare) ≡ 1) (sym same) own in
            absurd (omega arith)),
      )

  image_words : (place v : ℕ) → ((b n : ℕ) → n ≤ shape.nodes → place ≢ link_at shape b n)
      → ((n : ℕ) → 0 < uses n (known history) → (one_at n ≢ place) × (two_at n ≢ place))
      → place < block_at shape 0 → ((n : ℕ) → n ≤ shape.nodes → list_at n ≢ place)
      → IsImage shape (set words place v) history
  image_words place v no_link no_key low no_list = record {
    chains = λ b low. chain_same shape words b place v 0 (in_bucket shape b (known history)) (no_link b 0 (omega arith))
        (λ n h. let below = uses_filter n (λ x. bucket_of shape x.key == b) (known history) in let small = known_small n (omega arith) in no_link b n small.1)
        (k.image.chains b low);
    keys = keys_same words place v (known history) no_key k.image.keys;
    lists = lists_same shape words history place v low no_list k.image.lists;
  }

  -- a word of the own spare
  pub kept_store : (i p : ℕ) (r : Option ℕ) (spare place v : ℕ) (marked : Bool) (before after : Phase) → get_elem? seats i ≡ some (seat p r spare marked before)
      → 0 < spare → one_at spare ≤ place → place ≤ two_at spare → HasReached shape (set words place v) (known history) spare marked after
      → Kept shape (set words place v) (set seats i (seat p r spare marked after)) history
  kept_store i p r spare place v marked before after at some_spare low high reached =
      let old = seat p r spare marked before in
      let new = seat p r spare marked after in
      let seen = known history in
      let alone = spare_alone i old at some_spare in
      let small = alone.0 in
      let sum : (f : Seat → ℕ) → f new ≡ f old → total f (set seats i new) ≡ total f seats = λ f e. total_same f seats i old new at e in
      let others : (n : ℕ) → n ≢ place → slice_index (set words place v) n ≡ slice_index words n = λ n ne. get_or-set_other words place n v 0 ne in
      let claim : slice_index (set words place v) claim_at ≡ slice_index words claim_at = others claim_at (λ e. omega arith) in
      let not_known : (n : ℕ) → 0 < uses n seen → n ≢ spare = λ n h e. let z = alone.1 in let y : uses n seen ≡ 0 = ap (λ m. uses m seen) e ∙ z in omega arith in
      let sitting = k.seat_is i old at in
      record {
        ranges = k.ranges;
        long = length-set words place v ∙ k.long;
        few = let h = k.few in omega (arith, length-set seats i new);
        apart = λ n. let h = k.apart n in omega (arith, sum (is_pass n) refl);
        legal = k.legal;
        image = image_words place v
            (λ b n. elim n as (λ m. m ≤ shape.nodes → place ≢ link_at shape b m) [ zero ↦ (λ h e. omega arith) | suc m ↦ (λ h e. omega arith) ])
            (λ n h. let ne = not_known n h in ((λ e. ne (omega arith)), (λ e. ne (omega arith))))
            (omega arith)
            (λ n le e. omega arith);
        shared = record {
          each = λ n h. ap (λ t. uses n seen + t) (sum (keeps n) refl) ∙ k.shared.each n h ∙ ap (λ c. one_if (nat_le n (min c shape.nodes))) (sym claim);
          numbers = k.shared.numbers;
          all = let h = k.shared.all in omega (arith, sum has_spare refl, sum is_marked refl);
          full = ap (λ t. length seen + t) (sum has_spare refl) ∙ k.shared.full ∙ ap (λ c. min c shape.nodes) (sym claim);
          fresh = λ n pos le none. let f = k.shared.fresh n pos le none in others (next_at n) (λ e. omega arith) ∙ f;
        };
        seat_is = each_seat seats i new (IsSeat shape (set words place v) seen)
            (record { pass = sitting.pass; mark = λ m. let h = sitting.mark m in absurd (let z = h.0 in omega arith); reached = reached })
            (λ j t ne there.
            let other = alone.2 j t ne there in
            let s = k.seat_is j t there in
            record {
              pass = s.pass;
              mark = λ m. let h = s.mark m in (h.0, subst (λ c. shape.nodes ≤ c) (sym claim) h.1);
              reached = reached_words shape words seen t.spare place v
                  (record {
                    spare_one = λ h e. other (omega arith);
                    spare_two = λ h e. other (omega arith);
                    known_one = λ n h e. not_known n h (omega arith);
                  })
                  t.marked t.phase s.reached;
            });
      }

  -- the claim word rises by one, and the seat has a spare or is marked
  claim_raised : (i : ℕ) (s new : Seat) → get_elem? seats i ≡ some s
      → s.pass ≡ new.pass → s.spare ≡ 0 → s.marked ≡ false
      → ((n : ℕ) → 0 < n → one_if (nat_le n (given_out shape words)) + keeps n new ≡ one_if (nat_le n (min (slice_index words claim_at + 1) shape.nodes)))
      → has_spare new + is_marked new ≡ 1
      → given_out shape words + has_spare new ≡ min (slice_index words claim_at + 1) shape.nodes
      → IsSeat shape (set words claim_at (slice_index words claim_at + 1)) (known history) new
      → Kept shape (set words claim_at (slice_index words claim_at + 1)) (set seats i new) history
  claim_raised i s new at same_pass no_spare no_mark each one full seat_is =
      let seen = known history in
      let v = slice_index words claim_at in
      let after = set words claim_at (v + 1) in
      let room : claim_at < length words = let h = k.long in omega arith in
      let claim : slice_index after claim_at ≡ v + 1 = get_or-set_same words claim_at (v + 1) 0 room in
      let others : (n : ℕ) → n ≢ claim_at → slice_index after n ≡ slice_index words n = λ n ne. get_or-set_other words claim_at n (v + 1) 0 ne in
      let had : has_spare s ≡ 0 = ap (λ n. one_if (nat_lt 0 n)) no_spare in
      let was : is_marked s ≡ 0 = ap one_if no_mark in
      record {
        ranges = k.ranges;
        long = length-set words claim_at (v + 1) ∙ k.long;
        few = let h = k.few in omega (arith, length-set seats i new);
        apart = λ n. let h = k.apart n in omega (arith, total_same (is_pass n) seats i s new at (ap (λ (m : ℕ). one_if (m == n)) (sym same_pass)));
        legal = k.legal;
        image = image_words claim_at (v + 1)
            (λ b n. elim n as (λ m. m ≤ shape.nodes → claim_at ≢ link_at shape b m) [ zero ↦ (λ h e. omega arith) | suc m ↦ (λ h e. omega arith) ])
            (λ n h. let pos = known_small n h in ((λ e. let p = pos.0 in omega arith), (λ e. omega arith)))
            (omega arith)
            (λ n le e. omega arith);
        shared = record {
          each = λ n h.
              let kept : keeps n s ≡ 0 = ap (λ m. one_if (m == n)) no_spare ∙ grind (arith, nat_tests) in
              let sum = total_set (keeps n) seats i s new at in
              let before = k.shared.each n h in
              let more = each n h in
              let left : uses n seen + total (keeps n) (set seats i new) ≡ one_if (nat_le n (min (v + 1) shape.nodes)) = omega arith in
              left ∙ ap (λ c. one_if (nat_le n (min c shape.nodes))) (sym claim);
          numbers = k.shared.numbers;
          all = let h = k.shared.all in omega (arith, total_set has_spare seats i s new at, total_set is_marked seats i s new at);
          full =
              let h = k.shared.full in
              let sum = total_set has_spare seats i s new at in
              let left : length seen + total has_spare (set seats i new) ≡ min (v + 1) shape.nodes = omega arith in
              left ∙ ap (λ c. min c shape.nodes) (sym claim);
          fresh = λ n pos le none. let f = k.shared.fresh n pos le none in others (next_at n) (λ e. omega arith) ∙ f;
        };
        seat_is = each_seat seats i new (IsSeat shape after seen) seat_is
            (λ j t ne there.
            let sitting = k.seat_is j t there in
            record {
              pass = sitting.pass;
              mark = λ m. let h = sitting.mark m in (h.0, (let le = h.1 in omega arith));
              reached = reached_words shape words seen t.spare claim_at (v + 1)
                  (record {
                    spare_one = λ h e. omega arith;
                    spare_two = λ h e. omega arith;
                    known_one = λ n h e. let p = known_small n h in let q = p.0 in omega arith;
                  })
                  t.marked t.phase sitting.reached;
            });
      }

  pub kept_claim_won : (i p : ℕ) (r : Option ℕ) (spare : ℕ) (marked : Bool) (key : Key) → get_elem? seats i ≡ some (seat p r spare marked (Claiming key))
      → slice_index words claim_at < shape.nodes
      → Kept shape (set words claim_at (slice_index words claim_at + 1)) (set seats i (seat p r (slice_index words claim_at + 1) marked (StoringOne key))) history
  kept_claim_won i p r spare marked key at low =
      let old = seat p r spare marked (Claiming key) in
      let v = slice_index words claim_at in
      let new = seat p r (v + 1) marked (StoringOne key) in
      let stood = (k.seat_is i old at).reached in
      let unmarked : is_marked new ≡ 0 = ap one_if stood.1 in
      let spared : has_spare new ≡ 1 = grind (arith, nat_tests) in
      claim_raised i old new at refl stood.0 stood.1
      (λ n pos. grind (arith, nat_tests))
      (omega arith)
      (omega arith)
      (record { pass = (k.seat_is i old at).pass; mark = λ m. absurd (true≢false (sym m ∙ stood.1)); reached = (omega arith, stood.1) })

  pub kept_claim_full : (i p : ℕ) (r : Option ℕ) (spare : ℕ) (marked : Bool) (key : Key) → get_elem? seats i ≡ some (seat p r spare marked (Claiming key))
      → shape.nodes ≤ slice_index words claim_at
      → Kept shape (set words claim_at (slice_index words claim_at + 1)) (set seats i (seat p r spare true (Linking key 0 0))) history
  kept_claim_full i p r spare marked key at high =
      let old = seat p r spare marked (Claiming key) in
      let v = slice_index words claim_at in
      let new = seat p r spare true (Linking key 0 0) in
      let stood = (k.seat_is i old at).reached in
      let none : spare ≡ 0 = stood.0 in
      let spared : has_spare new ≡ 0 = ap (λ n. one_if (nat_lt 0 n)) none in
      let room : claim_at < length words = let h = k.long in omega arith in
      let claim : slice_index (set words claim_at (v + 1)) claim_at ≡ v + 1 = get_or-set_same words claim_at (v + 1) 0 room in
      claim_raised i old new at refl stood.0 stood.1
      (λ n pos. let kept : keeps n new ≡ 0 = ap (λ m. one_if (m == n)) none ∙ grind (arith, nat_tests) in grind (arith, nat_tests))
      (omega arith)
      (omega arith)
      (record { pass = (k.seat_is i old at).pass; mark = λ m. (none, omega arith); reached = (tt, walk_begins shape (known history) key) })

  -- the spare becomes the last node of its bucket
  pub kept_swap_won : (i p : ℕ) (r : Option ℕ) (spare from steps : ℕ) (marked : Bool) (key : Key) → get_elem? seats i ≡ some (seat p r spare marked (Swapping key from steps))
      → slice_index words (link_at shape (bucket_of shape key) from) ≡ 0
      → Kept shape (set words (link_at shape (bucket_of shape key) from) spare) (set seats i (seat p r 0 marked Idle)) (history ++ Call p key (Num spare) ∷ [])
  kept_swap_won i p r spare from steps marked key at empty =
      let old = seat p r spare marked (Swapping key from steps) in
      let new = seat p r 0 marked Idle in
      let seen = known history in
      let b = bucket_of shape key in
      let place = link_at shape b from in
      let after = set words place spare in
      let pass_low : p < shape.passes = (k.seat_is i old at).pass in
      let stood = (k.seat_is i old at).reached in
      let some_spare : 0 < spare = stood.1.0 in
      let w = stood.2 in
      let alone = spare_alone i old at some_spare in
      let small = alone.0 in
      let fresh_one : uses spare seen ≡ 0 = alone.1 in
      let low_bucket : b < 2 ^ shape.bucket_bits = bucket_small shape key k.ranges.bits_fit in
      let place_low : (n : ℕ) → n ≤ shape.nodes → link_at shape b n < block_at shape 0 =
      λ n. elim n as (λ m. m ≤ shape.nodes → link_at shape b m < block_at shape 0) [ zero ↦ (λ h. omega arith) | suc m ↦ (λ h. omega arith) ] in
      let positive : (n : ℕ) → 0 < uses n seen → 0 < n = λ n h. (known_small n h).0 in
      let whole = walk_ends shape words seen key from steps w positive (k.image.chains b low_bucket) empty in
      let unknown : number_in seen key ≡ None = walk_misses shape words seen key w.passed w.others whole in
      let y : Known = record { number = spare; key = key } in
      let now : known (history ++ Call p key (Num spare) ∷ []) ≡ seen ++ y ∷ [] =
      known_more history (Call p key (Num spare)) ∙ ap (with_key seen key spare) unknown in
      let from_known : (from ≡ 0) ⊎ (0 < uses from seen) = walk_place shape words seen key from steps w in
      let from_low : from ≤ shape.nodes = ⊎_elim (λ e. omega arith) (λ h. (known_small from h).1) from_known in
      let not_from : spare ≢ from = (λ e. let z : uses from seen ≡ 0 = ap (λ n. uses n seen) (sym e) ∙ fresh_one in
      ⊎_elim (λ o. absurd (omega arith)) (λ h. absurd (omega arith)) from_known) in
      let others : (n : ℕ) → n ≢ place → slice_index after n ≡ slice_index words n = λ n ne. get_or-set_other words place n spare 0 ne in
      let claim : slice_index after claim_at ≡ slice_index words claim_at = others claim_at (claim_off_links shape b from) in
      let more : (n : ℕ) → uses n (seen ++ y ∷ []) ≡ uses n seen + one_if (spare == n) = λ n. omega (arith, uses-append n seen (y ∷ [])) in
      let empties = k.shared.fresh spare some_spare small fresh_one in
      let length_of : length words ≡ word_count shape = k.long in
      let in_own : (n : ℕ) → uses n w.passed ≤ uses n seen = λ n. subst (λ l. uses n l ≤ uses n seen) whole (uses_filter n (λ x. bucket_of shape x.key == b) seen) in
      let own_chain : IsChain shape words b 0 w.passed = subst (IsChain shape words b 0) whole (k.image.chains b low_bucket) in
      let grown : IsChain shape (set words (link_at shape b (last_of 0 w.passed)) spare) b 0 (w.passed ++ y ∷ []) =
      chain_grows shape words b 0 w.passed y
      (λ n. ⊎_elim (λ lt. inr lt) (λ le. inl (subst (λ m. link_at shape b n < m) (sym length_of) (link_within shape b n low_bucket le))) (cases_lt shape.nodes n))
      (omega arith) small (λ e. omega arith)
      (let h = in_own spare in omega arith)
      (let h = in_own 0 in let z = k.shared.numbers in omega arith)
      (λ n. let h = in_own n in let o = known_once n in omega arith)
      (λ n h. let g = in_own n in let s = known_small n (omega arith) in s.1)
      (spare_link shape b words spare some_spare empties)
      own_chain in
      let grown_here : IsChain shape after b 0 (w.passed ++ y ∷ []) = subst (λ n. IsChain shape (set words (link_at shape b n) spare) b 0 (w.passed ++ y ∷ [])) w.reached grown in
      let in_b : in_bucket shape b (seen ++ y ∷ []) ≡ w.passed ++ y ∷ [] =
      filter-append (λ x. bucket_of shape x.key == b) seen (y ∷ [])
      ∙ ap (λ l. l ++ in_bucket shape b (y ∷ [])) whole
      ∙ ap (λ t. w.passed ++ cond t (y ∷ []) []) (eq-eqb b b refl) in
      let in_other : (c : ℕ) → b ≢ c → in_bucket shape c (seen ++ y ∷ []) ≡ in_bucket shape c seen = λ c ne.
      filter-append (λ x. bucket_of shape x.key == c) seen (y ∷ [])
      ∙ ap (λ t. in_bucket shape c seen ++ cond t (y ∷ []) []) (ne_eqb b c ne)
      ∙ append-nil (in_bucket shape c seen) in
      let lists_now : (n : ℕ) → listing_in (history ++ Call p key (Num spare) ∷ []) n ≡ listing_in history n = λ n. listing_more history (Call p key (Num spare)) n refl in
      let image : IsImage shape after (history ++ Call p key (Num spare) ∷ []) = record {
        chains = λ c low. subst (λ l. IsChain shape after c 0 (in_bucket shape c l)) (sym now) (⊎_elim
            (λ (e : b ≡ c). subst (λ d. IsChain shape after d 0 (in_bucket shape d (seen ++ y ∷ []))) e (subst (IsChain shape after b 0) (sym in_b) grown_here))
            (λ (ne : b ≢ c). subst (IsChain shape after c 0) (sym (in_other c ne))
            (chain_same shape words c place spare 0 (in_bucket shape c seen)
            (links_of_two shape b c from 0 ne from_low (omega arith) (λ pos e. omega arith))
            (λ n h.
            let below = uses_filter n (λ x. bucket_of shape x.key == c) seen in
            let s = known_small n (omega arith) in
            links_of_two shape b c from n ne from_low s.1
            (λ pos e.
            let two = uses_of_two shape n b c ne seen in
            let once = known_once n in
            let here : 0 < uses from (in_bucket shape b seen) = ⊎_elim (λ z. absurd (omega arith)) (λ g. walk_last shape words seen key from steps w pos) from_known in
            let there : 0 < uses n (in_bucket shape b seen) = subst (λ m. 0 < uses m (in_bucket shape b seen)) e here in
            omega arith))
            (k.image.chains c low)))
            (cases_eq b c));
        keys = subst (HaveKeys after) (sym now) (keys_more after seen (y ∷ [])
            (keys_same words place spare seen (λ n h. let s = known_small n h in let off = keys_off_links shape b from n s.1 in (off.0, off.1)) k.image.keys)
            (let off = keys_off_links shape b from spare small in
            (others (one_at spare) off.0 ∙ stood.1.1, others (two_at spare) off.1 ∙ stood.1.2, tt)));
        lists = λ n pos le. subst (IsListWord shape after (slice_index after (list_at n))) (sym (lists_now n))
            (lists_same shape words history place spare (place_low from from_low) (λ m low. (keys_off_links shape b from m low).2) k.image.lists n pos le);
      } in
      let shared : Shared shape after (set seats i new) (seen ++ y ∷ []) = record {
        each = λ n h.
            let sum = total_set (keeps n) seats i old new at in
            let none : keeps n new ≡ 0 = grind (arith, nat_tests) in
            let m = more n in
            let before = k.shared.each n h in
            let left : uses n (seen ++ y ∷ []) + total (keeps n) (set seats i new) ≡ one_if (nat_le n (given_out shape words)) = omega arith in
            left ∙ ap (λ c. one_if (nat_le n (min c shape.nodes))) (sym claim);
        numbers = let m = more 0 in let z = k.shared.numbers in let no : one_if (spare == 0) ≡ 0 = grind (arith, nat_tests) in omega arith;
        all =
            let had : has_spare old ≡ 1 = grind (arith, nat_tests) in
            let h = k.shared.all in
            omega (arith, total_set has_spare seats i old new at, total_set is_marked seats i old new at, length-append seen (y ∷ []));
        full =
            let had : has_spare old ≡ 1 = grind (arith, nat_tests) in
            let h = k.shared.full in
            let left : length (seen ++ y ∷ []) + total has_spare (set seats i new) ≡ given_out shape words = omega (arith, total_set has_spare seats i old new at, length-append seen (y ∷ [])) in
            left ∙ ap (λ c. min c shape.nodes) (sym claim);
        fresh = λ n pos le none.
            let m = more n in
            let was : uses n seen ≡ 0 = omega arith in
            let f = k.shared.fresh n pos le was in
            let not_from' : from ≢ n = (λ e. ⊎_elim (λ z. absurd (omega arith)) (λ g. let g' : 0 < uses n seen = subst (λ x. 0 < uses x seen) e g in absurd (omega arith)) from_known) in
            others (next_at n) (next_off_links shape b from n le pos not_from') ∙ f;
      } in
      let seat_is : (j : ℕ) (t : Seat) → get_elem? (set seats i new) j ≡ some t → IsSeat shape after (seen ++ y ∷ []) t =
      each_seat seats i new (IsSeat shape after (seen ++ y ∷ []))
      (record { pass = pass_low; mark = λ m. absurd (true≢false (sym m ∙ stood.0)); reached = tt })
      (λ j t ne there.
      let sitting = k.seat_is j t there in
      record {
        pass = sitting.pass;
        mark = λ m. let h = sitting.mark m in (h.0, subst (λ c. shape.nodes ≤ c) (sym claim) h.1);
        reached = reached_more shape after seen (y ∷ []) t.spare t.marked t.phase
            (reached_words shape words seen t.spare place spare
            (record {
              spare_one = λ h. let a = spare_alone j t there h in (keys_off_links shape b from t.spare a.0).0;
              spare_two = λ h. let a = spare_alone j t there h in (keys_off_links shape b from t.spare a.0).1;
              known_one = λ n h. let s = known_small n h in (keys_off_links shape b from n s.1).0;
            })
            t.marked t.phase sitting.reached);
      }) in
      record {
        ranges = k.ranges;
        long = length-set words place spare ∙ k.long;
        few = let h = k.few in omega (arith, length-set seats i new);
        apart = λ n. let h = k.apart n in omega (arith, total_same (is_pass n) seats i old new at refl);
        legal = legal_more shape history (Call p key (Num spare)) k.legal (pass_low, subst (λ o. MayAnswer shape seen o (Num spare)) (sym unknown) (some_spare, small, fresh_one));
        image = image;
        shared = subst (Shared shape after (set seats i new)) (sym now) shared;
        seat_is = subst (λ (l : List Known). (j : ℕ) (t : Seat) → get_elem? (set seats i new) j ≡ some t → IsSeat shape after l t) (sym now) seat_is;
      }
