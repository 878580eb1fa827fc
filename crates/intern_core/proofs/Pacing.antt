-- A turn of a call ends it, or takes it on by one event at least; and a call ends in time.
use Rattle.std.proofs.Common.{◌≡◌, ℕ, zero, suc, ◌+◌, ◌*◌, ◌<◌, ◌≤◌, ◌==◌, nat_lt, ◌⊎◌, inl, inr, Bool, true, false, List, [], ◌∷◌, ◌++◌, length, refl, sym, ap, ◌∙◌, subst, arith, slice_index, Some, None, length-append, cond, Option}
use mathlib.Core.Option.{some}
use lib.ListN.{get_elem?}
use Rattle.std.proofs.lemmas.Bool.{cond_both, eq-eqb}
use Rattle.std.proofs.lemmas.List.Elements.{filter-append}
use Rattle.intern_core.specs.declared.shape.Shape.{Shape}
use Rattle.intern_core.specs.declared.history.Key.{Key}
use Rattle.intern_core.specs.declared.history.EntryWords.{EntryWords}
use Rattle.intern_core.specs.declared.history.Reply.TheVariants.{Num, Full}
use Rattle.intern_core.specs.declared.history.Entry.TheVariants.{Call}
use Rattle.intern_core.specs.declared.outcome.Outcome2.TheVariants.{Going, Answered}
use Rattle.intern_core.specs.declared.seat.Phase.{Phase}
use Rattle.intern_core.specs.declared.seat.Phase.TheVariants.{Idle, Claiming, StoringOne, StoringTwo, Linking, Swapping, AtOne, AtTwo, LookingOne, LookingTwo, MeasuringList, FindingEntry, ReadingOne, ReadingTwo, ReadingThree, Offering, ClaimingBlock, StoringWord, SwappingList}
use Rattle.intern_core.specs.Turns.{Turn, seat, turn_in, linked, swapped, next_place}
use Rattle.intern_core.specs.Pace.{key_in, answer_in, start_pace, pace}
use Rattle.intern_core.specs.declared.seat.Seat.{Seat}
use Rattle.intern_core.specs.declared.history.Entry.{Entry}
use Rattle.intern_core.specs.Kept.{Kept, IsWalk, HasFound, HasReached}
use Rattle.intern_core.specs.Image.{in_bucket}
use Rattle.intern_core.specs.Layout.{bucket_of, link_at}
use Rattle.intern_core.specs.History.{known, Known, learnt, with_key, number_in}
use Rattle.intern_core.proofs.Walks.{walk_ends, walk_misses}
use Rattle.intern_core.proofs.Chains.{bucket_small}
use Rattle.intern_core.proofs.Steps.{known_small}
use Rattle.intern_core.proofs.Histories.{known_more}

-- the turn ends the call with this entry, or the call goes on
pub record Ends (p spare : ℕ) (phase : Phase) (k : Key) (t : Turn) : Type 0 where
  pub idle : t.seat.phase ≡ Idle
  pub outcome : t.outcome ≡ Answered (answer_in spare phase)
  pub made : t.made ≡ Call p k (answer_in spare phase) ∷ []

pub record GoesOn (spare : ℕ) (marked : Bool) (phase : Phase) (k : Key) (t : Turn) : Type 0 where
  pub key : key_in t.seat.phase ≡ Some k
  pub none : t.made ≡ []
  pub outcome : t.outcome ≡ Going
  pub later : pace marked phase + 1 ≤ pace t.seat.marked t.seat.phase

module _ (shape : Shape) (offer : List EntryWords) (p : ℕ) (r : Option ℕ) (spare : ℕ) (k : Key) where
  abbrev Either : Bool → Phase → Turn → Type 0
  Either marked phase t = Ends p spare phase k t ⊎ GoesOn spare marked phase k t

  goes_linked : (marked : Bool) (key : Key) (from passed v : ℕ) → Some key ≡ Some k → Either marked (Linking key from passed) (linked p r spare marked key from passed v)
  goes_linked true key from passed zero e = let same : key ≡ k = cc in inl (record { idle = refl; outcome = refl; made = ap (λ (x : Key). Call p x Full ∷ []) same })
  goes_linked false key from passed zero e = inr (record { key = e; none = refl; outcome = refl; later = omega arith })
  goes_linked true key from passed (suc n) e = inr (record { key = e; none = refl; outcome = refl; later = omega arith })
  goes_linked false key from passed (suc n) e = inr (record { key = e; none = refl; outcome = refl; later = omega arith })

  goes_swapped : (marked : Bool) (key : Key) (from passed v : ℕ) → Some key ≡ Some k → Either marked (Swapping key from passed) (swapped p r spare marked key passed v)
  goes_swapped marked key from passed zero e = let same : key ≡ k = cc in inl (record { idle = refl; outcome = refl; made = ap (λ (x : Key). Call p x (Num spare) ∷ []) same })
  goes_swapped marked key from passed (suc n) e = inr (record { key = e; none = refl; outcome = refl; later = omega arith })

  pub turn_goes : (marked : Bool) (phase : Phase) (v : ℕ) → key_in phase ≡ Some k → (phase ≡ Claiming k → marked ≡ false) → (phase ≡ StoringTwo k → marked ≡ false)
      → Either marked phase (turn_in shape offer p r spare marked phase v)
  turn_goes marked (Claiming key) v e un un' = cond_both (nat_lt v shape.nodes) _ _ (Either marked (Claiming key))
      (λ h. inr (record { key = e; none = refl; outcome = refl; later = omega arith })) (λ h. inr (record { key = e; none = refl; outcome = refl; later = omega arith }))
  turn_goes marked (StoringOne key) v e un un' = inr (record { key = e; none = refl; outcome = refl; later = omega arith })
  turn_goes marked (StoringTwo key) v e un un' =
      let same : key ≡ k = cc in
      let m : marked ≡ false = un' (ap (λ (x : Key). StoringTwo x) same) in
      inr (record { key = e; none = refl; outcome = refl; later = subst (λ b. 3 ≤ pace b (Linking key 0 0)) (sym m) (omega arith) })
  turn_goes marked (Linking key from passed) v e un un' = goes_linked marked key from passed v e
  turn_goes marked (Swapping key from passed) v e un un' = goes_swapped marked key from passed v e
  turn_goes marked (AtOne key node passed) v e un un' = inr (record {
    key = cond_both (v == key.one) _ _ (λ (ph : Phase). key_in ph ≡ Some k) (λ h. e) (λ h. e);
    none = refl;
    outcome = refl;
    later = cond_both (v == key.one) _ _ (λ (ph : Phase). pace marked (AtOne key node passed) + 1 ≤ pace marked ph) (λ h. omega arith) (λ h. omega arith);
  })
  turn_goes marked (AtTwo key node passed) v e un un' = cond_both (v == key.two) _ _ (Either marked (AtTwo key node passed))
      (λ h. let same : key ≡ k = cc in inl (record { idle = refl; outcome = refl; made = ap (λ (x : Key). Call p x (Num node) ∷ []) same }))
      (λ h. inr (record { key = e; none = refl; outcome = refl; later = omega arith }))
  turn_goes marked Idle v e un un' = absurd (cc)
  turn_goes marked (LookingOne node) v e un un' = absurd (cc)
  turn_goes marked (LookingTwo node one) v e un un' = absurd (cc)
  turn_goes marked (MeasuringList number) v e un un' = absurd (cc)
  turn_goes marked (FindingEntry number at) v e un un' = absurd (cc)
  turn_goes marked (ReadingOne number at index) v e un un' = absurd (cc)
  turn_goes marked (ReadingTwo number at index one) v e un un' = absurd (cc)
  turn_goes marked (ReadingThree number at index one two) v e un un' = absurd (cc)
  turn_goes marked (Offering number len) v e un un' = absurd (cc)
  turn_goes marked (ClaimingBlock number len) v e un un' = absurd (cc)
  turn_goes marked (StoringWord number start len stored) v e un un' = absurd (cc)
  turn_goes marked (SwappingList number start len) v e un un' = absurd (cc)

in_bucket_more : (shape : Shape) (b : ℕ) (seen : List Known) (e : Entry) → length (in_bucket shape b seen) ≤ length (in_bucket shape b (learnt seen e))
in_bucket_more shape b seen (Call p key (Num n)) = grown (number_in seen key) where
  grown : (o : Option ℕ) → length (in_bucket shape b seen) ≤ length (in_bucket shape b (with_key seen key n o))
  grown (Some m) = omega arith
  grown None =
      let y : Known = record { number = n; key = key } in
      let split = filter-append (λ (x : Known). bucket_of shape x.key == b) seen (y ∷ []) in
      omega (arith, ap (λ (l : List Known). length l) split, length-append (in_bucket shape b seen) (in_bucket shape b (y ∷ [])))
in_bucket_more shape b seen other = omega arith

linked_ends : (p : ℕ) (r : Option ℕ) (spare : ℕ) (marked : Bool) (key : Key) (from passed v : ℕ) → (linked p r spare marked key from passed v).seat.phase ≡ Idle → marked ≡ true
linked_ends p r spare true key from passed v e = refl
linked_ends p r spare false key from passed zero e = absurd cc
linked_ends p r spare false key from passed (suc n) e = absurd cc

swapped_ends : (p : ℕ) (r : Option ℕ) (spare : ℕ) (marked : Bool) (key : Key) (passed v : ℕ) → (swapped p r spare marked key passed v).seat.phase ≡ Idle → v ≡ 0
swapped_ends p r spare marked key passed zero e = refl
swapped_ends p r spare marked key passed (suc n) e = absurd cc

-- the entry that a call ends with comes in time: at most four events for each node known in the bucket, and three more
module _ (shape : Shape) (words : List ℕ) (seats : List Seat) (history : List Entry) (kept : Kept shape words seats history) (i : ℕ) (offer : List EntryWords) (p : ℕ) (r : Option ℕ) where
  size_more : (k : Key) (e : Entry) → length (in_bucket shape (bucket_of shape k) (known history)) ≤ length (in_bucket shape (bucket_of shape k) (known (history ++ e ∷ [])))
  size_more k e =
      let m = in_bucket_more shape (bucket_of shape k) (known history) e in
      let same = ap (λ l. length (in_bucket shape (bucket_of shape k) l)) (known_more history e) in
      omega arith

  walked : (k : Key) (from steps : ℕ) → IsWalk shape (known history) k from steps → steps ≤ length (in_bucket shape (bucket_of shape k) (known history))
  walked k from steps w = let c = w.count in let split = ap (λ (l : List Known). length l) w.chain in omega (arith, length-append w.passed w.rest)

  found_more : (k : Key) (node steps : ℕ) → HasFound shape (known history) k node steps → steps < length (in_bucket shape (bucket_of shape k) (known history))
  found_more k node steps f = let c = f.count in let split = ap (λ (l : List Known). length l) f.chain in omega (arith, length-append f.passed (f.here ∷ f.rest))

  starts : (marked : Bool) → start_pace marked ≤ 3
  starts true = omega arith
  starts false = omega arith

  pub answered_in_time : (spare : ℕ) (marked : Bool) (phase : Phase) (k : Key) → get_elem? seats i ≡ some (seat p r spare marked phase) → key_in phase ≡ Some k
      → (turn_in shape offer p r spare marked phase (slice_index words (next_place shape (seat p r spare marked phase)))).seat.phase ≡ Idle
      → pace marked phase + 1 ≤ 4 * length (in_bucket shape (bucket_of shape k) (known (history ++ Call p k (answer_in spare phase) ∷ []))) + 3
  answered_in_time spare marked phase k at call idle = by phase call (kept.seat_is i (seat p r spare marked phase) at).reached idle where
    by : (ph : Phase) → key_in ph ≡ Some k → HasReached shape words (known history) spare marked ph
        → (turn_in shape offer p r spare marked ph (slice_index words (next_place shape (seat p r spare marked ph)))).seat.phase ≡ Idle
        → pace marked ph + 1 ≤ 4 * length (in_bucket shape (bucket_of shape k) (known (history ++ Call p k (answer_in spare ph) ∷ []))) + 3
    by Idle e st end = absurd cc
    by (LookingOne n) e st end = absurd cc
    by (LookingTwo n o) e st end = absurd cc
    by (MeasuringList number) e st end = absurd cc
    by (FindingEntry number at) e st end = absurd cc
    by (ReadingOne number at index) e st end = absurd cc
    by (ReadingTwo number at index one) e st end = absurd cc
    by (ReadingThree number at index one two) e st end = absurd cc
    by (Offering number len) e st end = absurd cc
    by (ClaimingBlock number len) e st end = absurd cc
    by (StoringWord number start len stored) e st end = absurd cc
    by (SwappingList number start len) e st end = absurd cc
    by (Claiming q) e st end = omega arith
    by (StoringOne q) e st end = omega arith
    by (StoringTwo q) e st end = omega arith
    by (Linking q from steps) e st end =
        let same : q ≡ k = cc in
        let m = linked_ends p r spare marked q from steps (slice_index words (link_at shape (bucket_of shape q) from)) end in
        let w = walked k from steps (subst (λ (x : Key). IsWalk shape (known history) x from steps) same st.1) in
        let s = size_more k (Call p k Full) in
        let one : start_pace marked ≡ 1 = ap start_pace m in
        omega arith
    by (AtOne q node steps) e st end =
        let same : q ≡ k = cc in
        let f = found_more k node steps (subst (λ (x : Key). HasFound shape (known history) x node steps) same st.1) in
        let s = size_more k (Call p k Full) in
        let three = starts marked in
        omega arith
    by (AtTwo q node steps) e st end =
        let same : q ≡ k = cc in
        let f = found_more k node steps (subst (λ (x : Key). HasFound shape (known history) x node steps) same st.1) in
        let s = size_more k (Call p k (Num node)) in
        let three = starts marked in
        omega arith
    by (Swapping q from steps) e st end =
        let same : q ≡ k = cc in
        let b = bucket_of shape k in
        let empty = swapped_ends p r spare marked q steps (slice_index words (link_at shape (bucket_of shape q) from)) end in
        let read : slice_index words (link_at shape b from) ≡ 0 = subst (λ (x : Key). slice_index words (link_at shape (bucket_of shape x) from) ≡ 0) same empty in
        let w = subst (λ (x : Key). IsWalk shape (known history) x from steps) same st.2 in
        let whole = walk_ends shape words (known history) k from steps w (λ n h. (known_small shape words seats history kept n h).0) (kept.image.chains b (bucket_small shape k kept.ranges.bits_fit)) read in
        let unknown = walk_misses shape words (known history) k w.passed w.others whole in
        let y : Known = record { number = spare; key = k } in
        let now = known_more history (Call p k (Num spare)) ∙ ap (with_key (known history) k spare) unknown in
        let split = filter-append (λ (x : Known). bucket_of shape x.key == b) (known history) (y ∷ []) in
        let mine : in_bucket shape b (y ∷ []) ≡ y ∷ [] = ap (λ t. cond t (y ∷ []) []) (eq-eqb b b refl) in
        let size_is : length (in_bucket shape b (known (history ++ Call p k (Num spare) ∷ []))) ≡ length (in_bucket shape b (known history)) + 1 =
        ap (λ l. length (in_bucket shape b l)) now ∙ ap (λ (l : List Known). length l) split ∙ length-append (in_bucket shape b (known history)) (in_bucket shape b (y ∷ []))
        ∙ ap (λ (l : List Known). length (in_bucket shape b (known history)) + length l) mine in
        let s = walked k from steps w in
        let three = starts marked in
        omega arith
