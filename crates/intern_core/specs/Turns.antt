-- What a seat's next act does: which word it reads, what it leaves there, how the seat and the history go on, and what it answers.
use Rattle.std.specs.Prelude.{ℕ, zero, suc, ◌+◌, ◌-◌, ◌*◌, ◌/◌, ◌%◌, ◌^◌, ◌<◌, ◌≤◌, ◌==◌, nat_lt, nat_le, Option, Some, None, slice_index, length, Bool, true, false, List, [], ◌∷◌, if◌then◌else◌}
use Rattle.intern_core.specs.declared.shape.Shape.{Shape}
use Rattle.intern_core.specs.declared.history.Key.{Key}
use Rattle.intern_core.specs.declared.history.Reply.TheVariants.{Num, Full}
use Rattle.intern_core.specs.declared.history.Entry.{Entry}
use Rattle.intern_core.specs.declared.history.Entry.TheVariants.{Call}
use Rattle.intern_core.specs.declared.history.Entry.TheVariants as entry
use Rattle.intern_core.specs.declared.history.EntryWords.{EntryWords}
use Rattle.intern_core.specs.declared.seat.Seat.{Seat}
use Rattle.intern_core.specs.declared.seat.Phase.{Phase}
use Rattle.intern_core.specs.declared.seat.Phase.TheVariants.{Idle, Claiming, StoringOne, StoringTwo, Linking, Swapping, AtOne, AtTwo, LookingOne, LookingTwo, MeasuringList, FindingEntry, ReadingOne, ReadingTwo, ReadingThree, Offering, ClaimingBlock, StoringWord, SwappingList}
use Rattle.intern_core.specs.declared.outcome.Outcome2.{Outcome2}
use Rattle.intern_core.specs.declared.outcome.Outcome2.TheVariants.{Going, Answered, Found, Length, Got, Offered}
use Rattle.intern_core.specs.declared.outcome.Published.TheVariants.{First, Already, NoRoom}
use Rattle.intern_core.specs.Layout.{claim_at, entries_at, one_at, two_at, list_at, link_at, block_at, bucket_of}
use Rattle.intern_core.specs.Image.{flat, list_word}

-- the word that the next act works on
abbrev pub next_place_in : Shape → ℕ → Phase → ℕ
next_place_in shape spare Idle = claim_at
next_place_in shape spare (Claiming key) = claim_at
next_place_in shape spare (StoringOne key) = one_at spare
next_place_in shape spare (StoringTwo key) = two_at spare
next_place_in shape spare (Linking key from passed) = link_at shape (bucket_of shape key) from
next_place_in shape spare (Swapping key from passed) = link_at shape (bucket_of shape key) from
next_place_in shape spare (AtOne key node passed) = one_at node
next_place_in shape spare (AtTwo key node passed) = two_at node
next_place_in shape spare (LookingOne node) = one_at node
next_place_in shape spare (LookingTwo node one) = two_at node
next_place_in shape spare (MeasuringList number) = list_at number
next_place_in shape spare (FindingEntry number at) = list_at number
next_place_in shape spare (ReadingOne number at index) = block_at shape index
next_place_in shape spare (ReadingTwo number at index one) = block_at shape index + 1
next_place_in shape spare (ReadingThree number at index one two) = block_at shape index + 2
next_place_in shape spare (Offering number len) = list_at number
next_place_in shape spare (ClaimingBlock number len) = entries_at
next_place_in shape spare (StoringWord number start len stored) = block_at shape start + stored
next_place_in shape spare (SwappingList number start len) = list_at number

abbrev pub next_place : Shape → Seat → ℕ
next_place shape s = next_place_in shape s.spare s.phase

-- the word that is left, the seat, the entries made, and the outcome
pub record Turn : Type 0 where
  pub word : ℕ
  pub seat : Seat
  pub made : List Entry
  pub outcome : Outcome2

abbrev pub seat : ℕ → Option ℕ → ℕ → Bool → Phase → Seat
seat pass refused spare marked phase = record { pass = pass; refused = refused; spare = spare; marked = marked; phase = phase }

-- a turn after which the call goes on
abbrev pub turn : ℕ → Seat → Turn
turn word s = record { word = word; seat = s; made = []; outcome = Going }

-- a turn that ends the call with an entry
abbrev pub ending : ℕ → Seat → Entry → Outcome2 → Turn
ending word s e outcome = record { word = word; seat = s; made = e ∷ []; outcome = outcome }

-- the phase in which a call for a key begins
abbrev pub first_phase : ℕ → Bool → Key → Phase
first_phase spare true key = Linking key 0 0
first_phase zero false key = Claiming key
first_phase (suc spare) false key = StoringOne key

-- the turns of pass p, which found v

abbrev pub claimed : Shape → ℕ → Option ℕ → ℕ → Bool → Key → ℕ → Turn
claimed shape p r spare marked key v =
    if nat_lt v shape.nodes then turn (v + 1) (seat p r (v + 1) marked (StoringOne key)) else turn (v + 1) (seat p r spare true (Linking key 0 0))

abbrev pub linked : ℕ → Option ℕ → ℕ → Bool → Key → ℕ → ℕ → ℕ → Turn
linked p r spare true key from passed zero = ending 0 (seat p r spare true Idle) (Call p key Full) (Answered Full)
linked p r spare false key from passed zero = turn 0 (seat p r spare false (Swapping key from passed))
linked p r spare marked key from passed (suc n) = turn (suc n) (seat p r spare marked (AtOne key (suc n) passed))

abbrev pub swapped : ℕ → Option ℕ → ℕ → Bool → Key → ℕ → ℕ → Turn
swapped p r spare marked key passed zero = ending spare (seat p r 0 marked Idle) (Call p key (Num spare)) (Answered (Num spare))
swapped p r spare marked key passed (suc n) = turn (suc n) (seat p r spare marked (AtOne key (suc n) passed))

abbrev pub seen_one : ℕ → Option ℕ → ℕ → Bool → Key → ℕ → ℕ → ℕ → Turn
seen_one p r spare marked key node passed v =
    turn v (seat p r spare marked (if v == key.one then AtTwo key node passed else Linking key node (passed + 1)))

abbrev pub seen_two : ℕ → Option ℕ → ℕ → Bool → Key → ℕ → ℕ → ℕ → Turn
seen_two p r spare marked key node passed v =
    if v == key.two then ending v (seat p r spare marked Idle) (Call p key (Num node)) (Answered (Num node))
    else turn v (seat p r spare marked (Linking key node (passed + 1)))

abbrev pub looked : ℕ → Option ℕ → ℕ → Bool → ℕ → ℕ → Turn
looked p r spare marked one v =
    record { word = v; seat = seat p r spare marked Idle; made = []; outcome = Found (record { one = one; two = v }) }

-- so many entries from this one on are claimed, and so many of their words are stored
abbrev pub storing : ℕ → ℕ → ℕ → ℕ → Phase
storing number start len stored = if nat_lt stored (3 * len) then StoringWord number start len stored else SwappingList number start len

-- how long the list is that a list word names
abbrev pub length_in : ℕ → Option ℕ
length_in zero = None
length_in (suc n) = Some (suc n % 2 ^ 32)

-- the first entry of the block that a list word names
abbrev pub start_in : ℕ → ℕ
start_in word = word / 2 ^ 32 - 1

-- a turn that ends the call without an entry
abbrev pub closing : ℕ → Seat → Outcome2 → Turn
closing word s outcome = record { word = word; seat = s; made = []; outcome = outcome }

abbrev pub offered : ℕ → Option ℕ → ℕ → Bool → ℕ → ℕ → ℕ → Turn
offered p None spare marked number len zero = turn 0 (seat p None spare marked (ClaimingBlock number len))
offered p (Some r) spare marked number len zero = closing 0 (seat p (Some r) spare marked Idle) (Offered NoRoom)
offered p r spare marked number len (suc n) = closing (suc n) (seat p r spare marked Idle) (Offered Already)

abbrev pub block_claimed : Shape → ℕ → Option ℕ → ℕ → Bool → ℕ → ℕ → ℕ → Turn
block_claimed shape p r spare marked number len v =
    if nat_le (v + len) shape.entries then turn (v + len) (seat p r spare marked (storing number v len 0))
    else closing (v + len) (seat p (Some len) spare marked Idle) (Offered NoRoom)

abbrev pub published : ℕ → Option ℕ → ℕ → Bool → List EntryWords → ℕ → ℕ → ℕ → ℕ → Turn
published p r spare marked offer number start len zero =
    ending (list_word start len) (seat p r spare marked Idle) (entry.List p number offer) (Offered First)
published p r spare marked offer number start len (suc n) =
    ending (suc n) (seat p r spare marked Idle) (entry.Lost p number len) (Offered Already)

abbrev pub turn_in : Shape → List EntryWords → ℕ → Option ℕ → ℕ → Bool → Phase → ℕ → Turn
turn_in shape offer p r spare marked Idle v = turn v (seat p r spare marked Idle)
turn_in shape offer p r spare marked (Claiming key) v = claimed shape p r spare marked key v
turn_in shape offer p r spare marked (StoringOne key) v = turn key.one (seat p r spare marked (StoringTwo key))
turn_in shape offer p r spare marked (StoringTwo key) v = turn key.two (seat p r spare marked (Linking key 0 0))
turn_in shape offer p r spare marked (Linking key from passed) v = linked p r spare marked key from passed v
turn_in shape offer p r spare marked (Swapping key from passed) v = swapped p r spare marked key passed v
turn_in shape offer p r spare marked (AtOne key node passed) v = seen_one p r spare marked key node passed v
turn_in shape offer p r spare marked (AtTwo key node passed) v = seen_two p r spare marked key node passed v
turn_in shape offer p r spare marked (LookingOne node) v = turn v (seat p r spare marked (LookingTwo node v))
turn_in shape offer p r spare marked (LookingTwo node one) v = looked p r spare marked one v
turn_in shape offer p r spare marked (MeasuringList number) v = closing v (seat p r spare marked Idle) (Length (length_in v))
turn_in shape offer p r spare marked (FindingEntry number at) v = turn v (seat p r spare marked (ReadingOne number at (start_in v + at)))
turn_in shape offer p r spare marked (ReadingOne number at index) v = turn v (seat p r spare marked (ReadingTwo number at index v))
turn_in shape offer p r spare marked (ReadingTwo number at index one) v = turn v (seat p r spare marked (ReadingThree number at index one v))
turn_in shape offer p r spare marked (ReadingThree number at index one two) v =
    closing v (seat p r spare marked Idle) (Got (record { 0 = one ∷ two ∷ v ∷ [] }))
turn_in shape offer p r spare marked (Offering number len) v = offered p r spare marked number len v
turn_in shape offer p r spare marked (ClaimingBlock number len) v = block_claimed shape p r spare marked number len v
turn_in shape offer p r spare marked (StoringWord number start len stored) v =
    turn (slice_index (flat offer) stored) (seat p r spare marked (storing number start len (stored + 1)))
turn_in shape offer p r spare marked (SwappingList number start len) v = published p r spare marked offer number start len v

-- what the next act of a seat, which offers these entries, makes of the word that it finds
abbrev pub turn_of : Shape → List EntryWords → Seat → ℕ → Turn
turn_of shape offer s v = turn_in shape offer s.pass s.refused s.spare s.marked s.phase v

-- a call on lists
abbrev pub is_on_lists : Phase → Bool
is_on_lists (MeasuringList number) = true
is_on_lists (FindingEntry number at) = true
is_on_lists (ReadingOne number at index) = true
is_on_lists (ReadingTwo number at index one) = true
is_on_lists (ReadingThree number at index one two) = true
is_on_lists (Offering number len) = true
is_on_lists (ClaimingBlock number len) = true
is_on_lists (StoringWord number start len stored) = true
is_on_lists (SwappingList number start len) = true
is_on_lists other = false

-- the numbers of a turn that found this word fit 32 bits, and a claim word 64
abbrev pub FitsTurn : Shape → List EntryWords → Phase → ℕ → Type 0
FitsTurn shape offer (Claiming key) v = v < 4294967296
FitsTurn shape offer (Linking key from passed) v = v ≤ shape.nodes
FitsTurn shape offer (Swapping key from passed) v = v ≤ shape.nodes
FitsTurn shape offer (AtOne key node passed) v = passed < shape.nodes
FitsTurn shape offer (AtTwo key node passed) v = passed < shape.nodes
FitsTurn shape offer (FindingEntry number at) v = (0 < v / 2 ^ 32) × (start_in v + at < 4294967296)
FitsTurn shape offer (ClaimingBlock number len) v = (v + len < 2 ^ 64) × (v + len ≤ shape.entries → v < 4294967296)
FitsTurn shape offer (StoringWord number start len stored) v = (stored < 3 * length offer) × (stored < 12288)
FitsTurn shape offer (SwappingList number start len) v = start < 4294967295
FitsTurn shape offer other v = Unit {0}
