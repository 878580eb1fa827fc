-- A walk goes on, and stays what it is while the history grows and other words change.
use Rattle.std.proofs.Common.{◌≡◌, ◌≢◌, ℕ, zero, suc, ◌+◌, ◌<◌, ◌≤◌, ◌==◌, Bool, true, false, List, [], ◌∷◌, ◌++◌, set, refl, sym, ap, ◌∙◌, subst, arith, slice_index, append_assoc, append-nil, length-append, ◌⊎◌, inl, inr, Some, None}
use Rattle.std.proofs.lemmas.List.{get_or-set_other}
use Rattle.std.proofs.lemmas.List.Elements.{filter-append}
use Rattle.std.proofs.lemmas.Bool.Decides.{nat_tests}
use Rattle.intern_core.specs.declared.shape.Shape.{Shape}
use Rattle.intern_core.specs.declared.history.Key.{Key}
use Rattle.intern_core.specs.declared.seat.Phase.{Phase}
use Rattle.intern_core.specs.declared.seat.Phase.TheVariants.{Idle, Claiming, StoringOne, StoringTwo, Linking, Swapping, AtOne, AtTwo, LookingOne, LookingTwo, MeasuringList, FindingEntry, ReadingOne, ReadingTwo, ReadingThree, Offering, ClaimingBlock, StoringWord, SwappingList}
use Rattle.intern_core.specs.Layout.{one_at, two_at, bucket_of, link_at}
use Rattle.intern_core.specs.History.{Known, uses, is_same_key, number_in}
use Rattle.intern_core.specs.Image.{in_bucket, IsChain, HaveKeys}
use Rattle.intern_core.specs.Kept.{AllOther, last_of, IsWalk, HasFound, Stored, Ready, HasReached}
use Rattle.intern_core.proofs.Histories.{AllOther-append, uses-append, look_in_bucket, look_past, look_here}
use Rattle.intern_core.proofs.Chains.{last_of-append, uses_filter, chain_after, keys_filter, keys_at, last_in}
use Rattle.intern_core.specs.Turns.{first_phase}

module _ (shape : Shape) (seen : List Known) (key : Key) where
  -- at the head nothing was passed
  pub walk_begins : IsWalk shape seen key 0 0
  walk_begins = record { passed = []; rest = in_bucket shape (bucket_of shape key) seen; chain = refl; reached = refl; count = refl; others = tt }

  -- a node with another key is passed
  pub walk_passes : (node steps : ℕ) (f : HasFound shape seen key node steps) → is_same_key f.here.key key ≡ false → IsWalk shape seen key node (steps + 1)
  walk_passes node steps f other = record {
    passed = f.passed ++ f.here ∷ [];
    rest = f.rest;
    chain = f.chain ∙ sym (append_assoc f.passed (f.here ∷ []) f.rest);
    reached = last_of-append 0 f.passed f.here ∙ f.reached;
    count = length-append f.passed (f.here ∷ []) ∙ ap (λ n. n + 1) f.count;
    others = AllOther-append key f.passed (f.here ∷ []) f.others (other, tt);
  }

  pub found_known : (node steps : ℕ) → HasFound shape seen key node steps → 0 < uses node seen
  found_known node steps f =
      let here : 0 < uses node (f.here ∷ []) = subst (λ n. 0 < uses n (f.here ∷ [])) f.reached (grind (arith, nat_tests)) in
      let own = in_bucket shape (bucket_of shape key) seen in
      let split : uses node own ≡ uses node f.passed + uses node (f.here ∷ f.rest) = ap (uses node) f.chain ∙ uses-append node f.passed (f.here ∷ f.rest) in
      let below : uses node own ≤ uses node seen = uses_filter node (λ x. bucket_of shape x.key == bucket_of shape key) seen in
      omega arith

  module _ (ys : List Known) where
    longer : (ps rest : List Known) → in_bucket shape (bucket_of shape key) seen ≡ ps ++ rest
        → in_bucket shape (bucket_of shape key) (seen ++ ys) ≡ ps ++ (rest ++ in_bucket shape (bucket_of shape key) ys)
    longer ps rest e =
        filter-append (λ x. bucket_of shape x.key == bucket_of shape key) seen ys
        ∙ ap (λ l. l ++ in_bucket shape (bucket_of shape key) ys) e
        ∙ append_assoc ps rest (in_bucket shape (bucket_of shape key) ys)

    pub walk_stays : (from steps : ℕ) → IsWalk shape seen key from steps → IsWalk shape (seen ++ ys) key from steps
    walk_stays from steps w = record {
      passed = w.passed;
      rest = w.rest ++ in_bucket shape (bucket_of shape key) ys;
      chain = longer w.passed w.rest w.chain;
      reached = w.reached;
      count = w.count;
      others = w.others;
    }

    pub found_stays : (node steps : ℕ) → HasFound shape seen key node steps → HasFound shape (seen ++ ys) key node steps
    found_stays node steps f = record {
      passed = f.passed;
      here = f.here;
      rest = f.rest ++ in_bucket shape (bucket_of shape key) ys;
      chain = longer f.passed (f.here ∷ f.rest) f.chain;
      reached = f.reached;
      count = f.count;
      others = f.others;
    }

-- a call reached where it stood once more is known
pub reached_more : (shape : Shape) (words : List ℕ) (seen ys : List Known) (spare : ℕ) (marked : Bool) (phase : Phase)
    → HasReached shape words seen spare marked phase → HasReached shape words (seen ++ ys) spare marked phase
reached_more shape words seen ys spare marked Idle st = tt
reached_more shape words seen ys spare marked (Claiming key) st = st
reached_more shape words seen ys spare marked (StoringOne key) st = st
reached_more shape words seen ys spare marked (StoringTwo key) st = st
reached_more shape words seen ys spare marked (Linking key from steps) st = (st.0, walk_stays shape seen key ys from steps st.1)
reached_more shape words seen ys spare marked (Swapping key from steps) st = (st.0, st.1, walk_stays shape seen key ys from steps st.2)
reached_more shape words seen ys spare marked (AtOne key node steps) st = (st.0, found_stays shape seen key ys node steps st.1)
reached_more shape words seen ys spare marked (AtTwo key node steps) st = (st.0, found_stays shape seen key ys node steps st.1, st.2)
reached_more shape words seen ys spare marked (LookingOne node) st = omega (arith, uses-append node seen ys)
reached_more shape words seen ys spare marked (LookingTwo node one) st = let h = st.0 in (omega (arith, uses-append node seen ys), st.1)
reached_more shape words seen ys spare marked (MeasuringList number) st = omega (arith, uses-append number seen ys)
reached_more shape words seen ys spare marked (FindingEntry number at) st = omega (arith, uses-append number seen ys)
reached_more shape words seen ys spare marked (ReadingOne number at index) st = omega (arith, uses-append number seen ys)
reached_more shape words seen ys spare marked (ReadingTwo number at index one) st = omega (arith, uses-append number seen ys)
reached_more shape words seen ys spare marked (ReadingThree number at index one two) st = omega (arith, uses-append number seen ys)
reached_more shape words seen ys spare marked (Offering number len) st = omega (arith, uses-append number seen ys)
reached_more shape words seen ys spare marked (ClaimingBlock number len) st = omega (arith, uses-append number seen ys)
reached_more shape words seen ys spare marked (StoringWord number start len stored) st = omega (arith, uses-append number seen ys)
reached_more shape words seen ys spare marked (SwappingList number start len) st = omega (arith, uses-append number seen ys)

-- the word at this place is of no use to a seat with this spare, nor to those who read keys of known numbers
pub record IsApart (seen : List Known) (spare place : ℕ) : Type 0 where
  pub spare_one : 0 < spare → one_at spare ≢ place
  pub spare_two : 0 < spare → two_at spare ≢ place
  pub known_one : (n : ℕ) → 0 < uses n seen → one_at n ≢ place

module _ (shape : Shape) (words : List ℕ) (seen : List Known) (spare place v : ℕ) (apart : IsApart seen spare place) where
  pub stored_words : (key : Key) → Stored words spare key → Stored (set words place v) spare key
  stored_words key h = (
    h.0,
    get_or-set_other words place (one_at spare) v 0 (apart.spare_one h.0) ∙ h.1,
    get_or-set_other words place (two_at spare) v 0 (apart.spare_two h.0) ∙ h.2,
  )

  pub ready_words : (marked : Bool) (key : Key) → Ready words spare marked key → Ready (set words place v) spare marked key
  ready_words true key h = tt
  ready_words false key h = stored_words key h

  known_words : (n w : ℕ) → 0 < uses n seen → slice_index words (one_at n) ≡ w → slice_index (set words place v) (one_at n) ≡ w
  known_words n w h e = get_or-set_other words place (one_at n) v 0 (apart.known_one n h) ∙ e

  -- a call reached where it stood once such a word changes
  pub reached_words : (marked : Bool) (phase : Phase) → HasReached shape words seen spare marked phase → HasReached shape (set words place v) seen spare marked phase
  reached_words marked Idle st = tt
  reached_words marked (Claiming key) st = st
  reached_words marked (StoringOne key) st = st
  reached_words marked (StoringTwo key) st = (st.0, st.1, get_or-set_other words place (one_at spare) v 0 (apart.spare_one st.0) ∙ st.2)
  reached_words marked (Linking key from steps) st = (ready_words marked key st.0, st.1)
  reached_words marked (Swapping key from steps) st = (st.0, stored_words key st.1, st.2)
  reached_words marked (AtOne key node steps) st = (ready_words marked key st.0, st.1)
  reached_words marked (AtTwo key node steps) st =
      (ready_words marked key st.0, st.1, known_words node key.one (found_known shape seen key node steps st.1) st.2)
  reached_words marked (LookingOne node) st = st
  reached_words marked (LookingTwo node one) st = (st.0, known_words node one st.0 st.1)
  reached_words marked (MeasuringList number) st = st
  reached_words marked (FindingEntry number at) st = st
  reached_words marked (ReadingOne number at index) st = st
  reached_words marked (ReadingTwo number at index one) st = st
  reached_words marked (ReadingThree number at index one two) st = st
  reached_words marked (Offering number len) st = st
  reached_words marked (ClaimingBlock number len) st = st
  reached_words marked (StoringWord number start len stored) st = st
  reached_words marked (SwappingList number start len) st = st

module _ (shape : Shape) (words : List ℕ) (seen : List Known) (key : Key) where
  -- where the link that a walk reached at is 0, the whole bucket was passed
  pub walk_ends : (from steps : ℕ) (w : IsWalk shape seen key from steps) → ((n : ℕ) → 0 < uses n seen → 0 < n)
      → IsChain shape words (bucket_of shape key) 0 (in_bucket shape (bucket_of shape key) seen)
      → slice_index words (link_at shape (bucket_of shape key) from) ≡ 0
      → in_bucket shape (bucket_of shape key) seen ≡ w.passed
  walk_ends from steps w positive chain empty =
      let b = bucket_of shape key in
      let ahead : IsChain shape words b from w.rest =
      subst (λ n. IsChain shape words b n w.rest) w.reached (chain_after shape words b 0 w.passed w.rest (subst (IsChain shape words b 0) w.chain chain)) in
      w.chain ∙ ap (λ l. w.passed ++ l) (no_rest w.rest refl ahead) ∙ append-nil w.passed where
        no_rest : (rest : List Known) → w.rest ≡ rest → IsChain shape words (bucket_of shape key) from rest → rest ≡ []
        no_rest [] e c = refl
        no_rest (x ∷ xs) e c =
            let own = in_bucket shape (bucket_of shape key) seen in
            let here : 0 < uses x.number (x ∷ xs) = grind (arith, nat_tests) in
            let split : uses x.number own ≡ uses x.number w.passed + uses x.number (x ∷ xs) = ap (uses x.number) (w.chain ∙ ap (λ l. w.passed ++ l) e) ∙ uses-append x.number w.passed (x ∷ xs) in
            let below : uses x.number own ≤ uses x.number seen = uses_filter x.number (λ y. bucket_of shape y.key == bucket_of shape key) seen in
            let pos : 0 < x.number = positive x.number (omega arith) in
            let link : slice_index words (link_at shape (bucket_of shape key) from) ≡ x.number = c.0 in
            absurd (omega arith)

  -- where it isn't 0, it is the node behind those passed
  pub walk_finds : (from steps node : ℕ) (w : IsWalk shape seen key from steps) → 0 < node
      → IsChain shape words (bucket_of shape key) 0 (in_bucket shape (bucket_of shape key) seen)
      → slice_index words (link_at shape (bucket_of shape key) from) ≡ node
      → HasFound shape seen key node steps
  walk_finds from steps node w pos chain full =
      let b = bucket_of shape key in
      let ahead : IsChain shape words b from w.rest =
      subst (λ n. IsChain shape words b n w.rest) w.reached (chain_after shape words b 0 w.passed w.rest (subst (IsChain shape words b 0) w.chain chain)) in
      some_rest w.rest w.chain ahead where
        some_rest : (rest : List Known) → in_bucket shape (bucket_of shape key) seen ≡ w.passed ++ rest → IsChain shape words (bucket_of shape key) from rest
            → HasFound shape seen key node steps
        some_rest [] e c = absurd (let z : slice_index words (link_at shape (bucket_of shape key) from) ≡ 0 = c in omega arith)
        some_rest (x ∷ xs) e c = record { passed = w.passed; here = x; rest = xs; chain = e; reached = sym c.0 ∙ full; count = w.count; others = w.others }

  -- a walk for a key that it did not meet in the whole bucket: the key is unknown
  pub walk_misses : (passed : List Known) → AllOther key passed → in_bucket shape (bucket_of shape key) seen ≡ passed → number_in seen key ≡ None
  walk_misses passed others whole =
      sym (look_in_bucket shape key seen) ∙ ap (λ l. number_in l key) (whole ∙ sym (append-nil passed)) ∙ look_past key passed [] others

  -- the node that it found has the key
  pub walk_hits : (node steps : ℕ) (f : HasFound shape seen key node steps) → is_same_key f.here.key key ≡ true → number_in seen key ≡ Some node
  walk_hits node steps f same =
      sym (look_in_bucket shape key seen) ∙ ap (λ l. number_in l key) f.chain ∙ look_past key f.passed (f.here ∷ f.rest) f.others
      ∙ look_here key f.here f.rest same ∙ ap Some f.reached

  -- the found node's key words are its key
  pub found_words : (node steps : ℕ) (f : HasFound shape seen key node steps) → HaveKeys words seen
      → (slice_index words (one_at node) ≡ f.here.key.one) × (slice_index words (two_at node) ≡ f.here.key.two)
  found_words node steps f keys =
      let own : HaveKeys words (in_bucket shape (bucket_of shape key) seen) = keys_filter words (λ x. bucket_of shape x.key == bucket_of shape key) seen keys in
      let here = keys_at words f.passed f.here f.rest (subst (HaveKeys words) f.chain own) in
      (subst (λ n. slice_index words (one_at n) ≡ f.here.key.one) f.reached here.0, subst (λ n. slice_index words (two_at n) ≡ f.here.key.two) f.reached here.1)

  -- the node at which a walk reached is known, or it reached at the head
  pub walk_place : (from steps : ℕ) → IsWalk shape seen key from steps → (from ≡ 0) ⊎ (0 < uses from seen)
  walk_place from steps w = at w.passed w.chain w.reached where
    at : (passed : List Known) → in_bucket shape (bucket_of shape key) seen ≡ passed ++ w.rest → last_of 0 passed ≡ from → (from ≡ 0) ⊎ (0 < uses from seen)
    at [] e reached = inl (sym reached)
    at (x ∷ xs) e reached =
        let own = in_bucket shape (bucket_of shape key) seen in
        let here : 0 < uses from (x ∷ xs) = subst (λ n. 0 < uses n (x ∷ xs)) reached (last_in x xs) in
        let split : uses from own ≡ uses from (x ∷ xs) + uses from w.rest = ap (uses from) e ∙ uses-append from (x ∷ xs) w.rest in
        let below : uses from own ≤ uses from seen = uses_filter from (λ y. bucket_of shape y.key == bucket_of shape key) seen in
        inr (omega arith)

  -- a node at which a walk reached is in its bucket
  pub walk_last : (from steps : ℕ) → IsWalk shape seen key from steps → 0 < from → 0 < uses from (in_bucket shape (bucket_of shape key) seen)
  walk_last from steps w pos = at w.passed w.chain w.reached where
    at : (passed : List Known) → in_bucket shape (bucket_of shape key) seen ≡ passed ++ w.rest → last_of 0 passed ≡ from
        → 0 < uses from (in_bucket shape (bucket_of shape key) seen)
    at [] e reached = absurd (omega arith)
    at (x ∷ xs) e reached =
        let here : 0 < uses from (x ∷ xs) = subst (λ n. 0 < uses n (x ∷ xs)) reached (last_in x xs) in
        let split : uses from (in_bucket shape (bucket_of shape key) seen) ≡ uses from (x ∷ xs) + uses from w.rest = ap (uses from) e ∙ uses-append from (x ∷ xs) w.rest in
        omega arith

-- a call for a key may begin at an idle seat
pub ask_reached : (shape : Shape) (words : List ℕ) (seen : List Known) (spare : ℕ) (marked : Bool) (key : Key)
    → HasReached shape words seen spare marked (first_phase spare marked key)
ask_reached shape words seen spare true key = (tt, walk_begins shape seen key)
ask_reached shape words seen zero false key = (refl, refl)
ask_reached shape words seen (suc n) false key = (omega arith, refl)
