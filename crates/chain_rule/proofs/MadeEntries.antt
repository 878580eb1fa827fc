-- Which entry a turn makes, and how the call goes on.
use Rattle.std.proofs.Common.{◌≡◌, ℕ, zero, suc, ◌+◌, ◌*◌, ◌<◌, ◌==◌, nat_lt, nat_le, ◌⊎◌, inl, inr, Bool, true, false, List, [], ◌∷◌, refl, sym, ap, slice_index, Option, Some, None}
use Rattle.std.proofs.lemmas.Bool.{cond_both, leb-false}
use Rattle.intern_core.specs.declared.shape.Shape.{Shape}
use Rattle.intern_core.specs.declared.history.Key.{Key}
use Rattle.intern_core.specs.declared.history.Reply.{Reply}
use Rattle.intern_core.specs.declared.history.Reply.TheVariants.{Num, Full}
use Rattle.intern_core.specs.declared.history.Entry.{Entry}
use Rattle.intern_core.specs.declared.history.EntryWords.{EntryWords}
use Rattle.intern_core.specs.declared.history.Entry.TheVariants.{Call, Lost}
use Rattle.intern_core.specs.declared.history.Entry.TheVariants as entry
use Rattle.intern_core.specs.declared.outcome.Outcome2.{Outcome2}
use Rattle.intern_core.specs.declared.outcome.Outcome2.TheVariants.{Going, Answered, Found, Length, Got, Offered}
use Rattle.intern_core.specs.declared.outcome.Published.TheVariants.{First, Already, NoRoom}
use Rattle.intern_core.specs.declared.seat.Phase.{Phase}
use Rattle.intern_core.specs.declared.seat.Phase.TheVariants.{Idle, Claiming, StoringOne, StoringTwo, Linking, Swapping, AtOne, AtTwo, LookingOne, LookingTwo, MeasuringList, FindingEntry, ReadingOne, ReadingTwo, ReadingThree, Offering, ClaimingBlock, StoringWord, SwappingList}
use Rattle.intern_core.specs.Image.{flat, list_word}
use Rattle.intern_core.specs.Turns.{Turn, seat, turn_in, linked, swapped, offered, published, storing, length_in, start_in}
use Rattle.intern_core.specs.Pace.{key_in}
use Rattle.chain_rule.specs.Rule.{pass_of, block_in}

-- the number of an offer in flight that has found no list
abbrev pub offered_in : Phase → Option ℕ
offered_in (ClaimingBlock number len) = Some number
offered_in (StoringWord number start len stored) = Some number
offered_in (SwappingList number start len) = Some number
offered_in other = None

-- which entry a turn makes
abbrev pub MakesEntry : ℕ → List EntryWords → Phase → Entry → Type 0
MakesEntry p offer phase e =
    ((key : Key) × (a : Reply) × (e ≡ Call p key a) × (key_in phase ≡ Some key))
    ⊎ ((n : ℕ) × (e ≡ entry.List p n offer) × (block_in phase ≡ Some n))
    ⊎ ((n len : ℕ) × (e ≡ Lost p n len))

pub made_by : (p : ℕ) (offer : List EntryWords) (phase : Phase) (e : Entry) → MakesEntry p offer phase e → pass_of e ≡ p
made_by p offer phase e (inl h) = ap pass_of h.2
made_by p offer phase e (inr (inl h)) = ap pass_of h.1
made_by p offer phase e (inr (inr h)) = ap pass_of h.2

-- what a turn makes, and how the call goes on
pub record Made (shape : Shape) (offer : List EntryWords) (p : ℕ) (r : Option ℕ) (marked : Bool) (phase : Phase) (v : ℕ) (t : Turn) : Type 0 where
  pub made : (t.made ≡ []) ⊎ ((e : Entry) × (t.made ≡ e ∷ []) × MakesEntry p offer phase e)
  pub call : (key_in t.seat.phase ≡ None) ⊎ (key_in t.seat.phase ≡ key_in phase)
  pub block : (block_in t.seat.phase ≡ None) ⊎ (block_in t.seat.phase ≡ offered_in phase)
  pub pass : t.seat.pass ≡ p
  pub refused : (t.seat.refused ≡ r) ⊎ ((number len : ℕ) × (phase ≡ ClaimingBlock number len) × (shape.entries < v + len))
  pub mark : marked ≡ true → t.seat.marked ≡ true

module _ (shape : Shape) (offer : List EntryWords) (p : ℕ) where
  -- a turn without an entry
  quiet : (r : Option ℕ) (spare : ℕ) (marked : Bool) (phase after : Phase) (v word : ℕ) (outcome : Outcome2) → (key_in after ≡ None) ⊎ (key_in after ≡ key_in phase)
      → (block_in after ≡ None) ⊎ (block_in after ≡ offered_in phase)
      → Made shape offer p r marked phase v (record { word = word; seat = seat p r spare marked after; made = []; outcome = outcome })
  quiet r spare marked phase after v word outcome call block = record { made = inl refl; call = call; block = block; pass = refl; refused = inl refl; mark = λ m. m }

  -- a turn that ends a call with an entry
  ends : (r : Option ℕ) (spare : ℕ) (marked : Bool) (phase : Phase) (v word : ℕ) (outcome : Outcome2) (e : Entry) → MakesEntry p offer phase e
      → Made shape offer p r marked phase v (record { word = word; seat = seat p r spare marked Idle; made = e ∷ []; outcome = outcome })
  ends r spare marked phase v word outcome e makes = record { made = inr (e, refl, makes); call = inl refl; block = inl refl; pass = refl; refused = inl refl; mark = λ m. m }

  made_linked : (r : Option ℕ) (spare : ℕ) (marked : Bool) (key : Key) (from passed v : ℕ) → Made shape offer p r marked (Linking key from passed) v (linked p r spare marked key from passed v)
  made_linked r spare true key from passed zero = ends r spare true (Linking key from passed) 0 0 (Answered Full) (Call p key Full) (inl (key, Full, refl, refl))
  made_linked r spare false key from passed zero = quiet r spare false (Linking key from passed) (Swapping key from passed) 0 0 Going (inr refl) (inl refl)
  made_linked r spare true key from passed (suc n) = quiet r spare true (Linking key from passed) (AtOne key (suc n) passed) (suc n) (suc n) Going (inr refl) (inl refl)
  made_linked r spare false key from passed (suc n) = quiet r spare false (Linking key from passed) (AtOne key (suc n) passed) (suc n) (suc n) Going (inr refl) (inl refl)

  made_swapped : (r : Option ℕ) (spare : ℕ) (marked : Bool) (key : Key) (from passed v : ℕ) → Made shape offer p r marked (Swapping key from passed) v (swapped p r spare marked key passed v)
  made_swapped r spare marked key from passed zero = ends r 0 marked (Swapping key from passed) 0 spare (Answered (Num spare)) (Call p key (Num spare)) (inl (key, Num spare, refl, refl))
  made_swapped r spare marked key from passed (suc n) = quiet r spare marked (Swapping key from passed) (AtOne key (suc n) passed) (suc n) (suc n) Going (inr refl) (inl refl)

  made_offered : (r : Option ℕ) (spare : ℕ) (marked : Bool) (number len v : ℕ) → Made shape offer p r marked (Offering number len) v (offered p r spare marked number len v)
  made_offered None spare marked number len zero = quiet None spare marked (Offering number len) (ClaimingBlock number len) 0 0 Going (inl refl) (inl refl)
  made_offered (Some r) spare marked number len zero = quiet (Some r) spare marked (Offering number len) Idle 0 0 (Offered NoRoom) (inl refl) (inl refl)
  made_offered None spare marked number len (suc n) = quiet None spare marked (Offering number len) Idle (suc n) (suc n) (Offered Already) (inl refl) (inl refl)
  made_offered (Some r) spare marked number len (suc n) = quiet (Some r) spare marked (Offering number len) Idle (suc n) (suc n) (Offered Already) (inl refl) (inl refl)

  made_published : (r : Option ℕ) (spare : ℕ) (marked : Bool) (number start len v : ℕ) → Made shape offer p r marked (SwappingList number start len) v (published p r spare marked offer number start len v)
  made_published r spare marked number start len zero =
      ends r spare marked (SwappingList number start len) 0 (list_word start len) (Offered First) (entry.List p number offer) (inr (inl (number, refl, refl)))
  made_published r spare marked number start len (suc n) =
      ends r spare marked (SwappingList number start len) (suc n) (suc n) (Offered Already) (Lost p number len) (inr (inr (number, len, refl)))

  -- once so many words are stored
  made_storing : (r : Option ℕ) (spare : ℕ) (marked : Bool) (phase : Phase) (v word number start len stored : ℕ) → offered_in phase ≡ Some number
      → Made shape offer p r marked phase v (record { word = word; seat = seat p r spare marked (storing number start len stored); made = []; outcome = Going })
  made_storing r spare marked phase v word number start len stored is = quiet r spare marked phase (storing number start len stored) v word Going
      (cond_both (nat_lt stored (3 * len)) _ _ (λ (ph : Phase). (key_in ph ≡ None) ⊎ (key_in ph ≡ key_in phase)) (λ e. inl refl) (λ e. inl refl))
      (cond_both (nat_lt stored (3 * len)) _ _ (λ (ph : Phase). (block_in ph ≡ None) ⊎ (block_in ph ≡ offered_in phase)) (λ e. inr (sym is)) (λ e. inr (sym is)))

  pub turn_made : (r : Option ℕ) (spare : ℕ) (marked : Bool) (phase : Phase) (v : ℕ) → Made shape offer p r marked phase v (turn_in shape offer p r spare marked phase v)
  turn_made r spare marked Idle v = quiet r spare marked Idle Idle v v Going (inl refl) (inl refl)
  turn_made r spare marked (Claiming key) v = cond_both (nat_lt v shape.nodes) _ _ (Made shape offer p r marked (Claiming key) v)
      (λ e. quiet r (v + 1) marked (Claiming key) (StoringOne key) v (v + 1) Going (inr refl) (inl refl))
      (λ e. record { made = inl refl; call = inr refl; block = inl refl; pass = refl; refused = inl refl; mark = λ m. refl })
  turn_made r spare marked (StoringOne key) v = quiet r spare marked (StoringOne key) (StoringTwo key) v key.one Going (inr refl) (inl refl)
  turn_made r spare marked (StoringTwo key) v = quiet r spare marked (StoringTwo key) (Linking key 0 0) v key.two Going (inr refl) (inl refl)
  turn_made r spare marked (Linking key from passed) v = made_linked r spare marked key from passed v
  turn_made r spare marked (Swapping key from passed) v = made_swapped r spare marked key from passed v
  turn_made r spare marked (AtOne key node passed) v = record {
    made = inl refl;
    call = cond_both (v == key.one) _ _ (λ (ph : Phase). (key_in ph ≡ None) ⊎ (key_in ph ≡ Some key)) (λ e. inr refl) (λ e. inr refl);
    block = cond_both (v == key.one) _ _ (λ (ph : Phase). (block_in ph ≡ None) ⊎ (block_in ph ≡ None)) (λ e. inl refl) (λ e. inl refl);
    pass = refl;
    refused = inl refl;
    mark = λ m. m;
  }
  turn_made r spare marked (AtTwo key node passed) v = cond_both (v == key.two) _ _ (Made shape offer p r marked (AtTwo key node passed) v)
      (λ e. ends r spare marked (AtTwo key node passed) v v (Answered (Num node)) (Call p key (Num node)) (inl (key, Num node, refl, refl)))
      (λ e. quiet r spare marked (AtTwo key node passed) (Linking key node (passed + 1)) v v Going (inr refl) (inl refl))
  turn_made r spare marked (LookingOne node) v = quiet r spare marked (LookingOne node) (LookingTwo node v) v v Going (inl refl) (inl refl)
  turn_made r spare marked (LookingTwo node one) v = quiet r spare marked (LookingTwo node one) Idle v v (Found (record { one = one; two = v })) (inl refl) (inl refl)
  turn_made r spare marked (MeasuringList number) v = quiet r spare marked (MeasuringList number) Idle v v (Length (length_in v)) (inl refl) (inl refl)
  turn_made r spare marked (FindingEntry number at) v = quiet r spare marked (FindingEntry number at) (ReadingOne number at (start_in v + at)) v v Going (inl refl) (inl refl)
  turn_made r spare marked (ReadingOne number at index) v = quiet r spare marked (ReadingOne number at index) (ReadingTwo number at index v) v v Going (inl refl) (inl refl)
  turn_made r spare marked (ReadingTwo number at index one) v = quiet r spare marked (ReadingTwo number at index one) (ReadingThree number at index one v) v v Going (inl refl) (inl refl)
  turn_made r spare marked (ReadingThree number at index one two) v = quiet r spare marked (ReadingThree number at index one two) Idle v v (Got (record { 0 = one ∷ two ∷ v ∷ [] })) (inl refl) (inl refl)
  turn_made r spare marked (Offering number len) v = made_offered r spare marked number len v
  turn_made r spare marked (ClaimingBlock number len) v = cond_both (nat_le (v + len) shape.entries) _ _ (Made shape offer p r marked (ClaimingBlock number len) v)
      (λ e. made_storing r spare marked (ClaimingBlock number len) v (v + len) number v len 0 refl)
      (λ e. record {
        made = inl refl;
        call = inl refl;
        block = inl refl;
        pass = refl;
        refused = inr (number, len, refl, leb-false (v + len) shape.entries e);
        mark = λ m. m;
      })
  turn_made r spare marked (StoringWord number start len stored) v =
      made_storing r spare marked (StoringWord number start len stored) v (slice_index (flat offer) stored) number start len (stored + 1) refl
  turn_made r spare marked (SwappingList number start len) v = made_published r spare marked number start len v

  -- a turn leaves the pass
  pub turn_pass : (r : Option ℕ) (spare : ℕ) (marked : Bool) (phase : Phase) (v : ℕ) → (turn_in shape offer p r spare marked phase v).seat.pass ≡ p
  turn_pass r spare marked phase v = (turn_made r spare marked phase v).pass
