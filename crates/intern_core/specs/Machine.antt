-- The interner as a pure machine: what one event makes of it.
use Rattle.std.specs.Prelude.{◌≡◌, ℕ, zero, suc, Bool, true, false, ◌&&◌, ◌||◌, ◌==◌, ◌⊎◌, map, length, nat_le, nat_lt, List, [], ◌∷◌, ◌++◌, if◌then◌else◌, Option, Some, None, slice_get, slice_index, slice_set, replicate, take}
use mathlib.Core.Option.{some}
use lib.ListN.{get_elem?}
use Rattle.intern_core.specs.declared.shape.Shape.{Shape}
use Rattle.intern_core.specs.declared.history.Key.{Key}
use Rattle.intern_core.specs.declared.history.Entry.{Entry}
use Rattle.intern_core.specs.declared.history.Entry.TheVariants as entry
use Rattle.intern_core.specs.declared.history.EntryWords.{EntryWords}
use Rattle.intern_core.specs.declared.seat.Seat.{Seat}
use Rattle.intern_core.specs.declared.seat.SeatWithOffer.{SeatWithOffer}
use Rattle.intern_core.specs.declared.seat.Phase.{Phase}
use Rattle.intern_core.specs.declared.seat.Phase.TheVariants.{Idle, Claiming, StoringOne, StoringTwo, Linking, Swapping, AtOne, AtTwo, LookingOne, LookingTwo, MeasuringList, FindingEntry, ReadingOne, ReadingTwo, ReadingThree, Offering, ClaimingBlock, StoringWord, SwappingList}
use Rattle.intern_core.specs.declared.event.Act.{Act}
use Rattle.intern_core.specs.declared.event.Act.TheVariants.{Ask, Look, Claim, StoreOne, StoreTwo, LoadLink, LoadOne, LoadTwo, SwapLink, FetchLen, FetchEntry, Offer, ClaimBlock, StoreWord, LoadList, LoadWord, SwapList}
use Rattle.intern_core.specs.declared.event.Event.{Event}
use Rattle.intern_core.specs.declared.outcome.Outcome2.{Outcome2}
use Rattle.intern_core.specs.declared.outcome.Outcome2.TheVariants.{Going, Answered, Found, Length, Got, Offered}
use Rattle.intern_core.specs.declared.outcome.Published.TheVariants.{First, Already, NoRoom}
use Rattle.intern_core.specs.declared.event.RunCoreFault.{RunCoreFault}
use Rattle.intern_core.specs.declared.event.RunCoreFault.TheVariants.{NotEnabled, Memory}
use Rattle.intern_core.specs.Layout.{word_count}
use Rattle.intern_core.specs.History.{Listing, listing_in, known, uses}
use Rattle.intern_core.specs.Kept.{Kept}
use Rattle.intern_core.specs.Blocks.{KeptLists}
use Rattle.intern_core.specs.Turns.{Turn, seat, next_place, turn_of, first_phase}

-- the parts of an interner
pub record Machine : Type 0 where
  pub shape : Shape
  pub words : List ℕ
  pub seats : List SeatWithOffer
  pub history : List Entry

-- a seat, and the entries that it offers or offered last
abbrev pub with_offer : Seat → List EntryWords → SeatWithOffer
with_offer s offer = record { seat = s; offer = offer }

-- an idle seat for each pass below n
abbrev pub idle_seats : ℕ → List SeatWithOffer
idle_seats zero = []
idle_seats (suc n) = idle_seats n ++ with_offer (seat n None 0 false Idle) [] ∷ []

-- the seats alone
abbrev pub seats_of : List SeatWithOffer → List Seat
seats_of seats = map (λ s. s.seat) seats

-- the machine at the start
abbrev pub fresh : Shape → Machine
fresh shape = record { shape = shape; words = replicate (word_count shape) 0; seats = idle_seats shape.passes; history = [] }

abbrev pub is_idle : Phase → Bool
is_idle Idle = true
is_idle other = false

-- whether an act is the one that a call in flight does next
abbrev pub is_next : Phase → Act → Bool
is_next (Claiming key) Claim = true
is_next (StoringOne key) StoreOne = true
is_next (StoringTwo key) StoreTwo = true
is_next (Linking key from passed) LoadLink = true
is_next (Swapping key from passed) SwapLink = true
is_next (AtOne key node passed) LoadOne = true
is_next (AtTwo key node passed) LoadTwo = true
is_next (LookingOne node) LoadOne = true
is_next (LookingTwo node one) LoadTwo = true
is_next (MeasuringList number) LoadList = true
is_next (FindingEntry number at) LoadList = true
is_next (ReadingOne number at index) LoadWord = true
is_next (ReadingTwo number at index one) LoadWord = true
is_next (ReadingThree number at index one two) LoadWord = true
is_next (Offering number len) LoadList = true
is_next (ClaimingBlock number len) ClaimBlock = true
is_next (StoringWord number start len stored) StoreWord = true
is_next (SwappingList number start len) SwapList = true
is_next phase act = false

-- whether a number is known
abbrev pub is_known : ℕ → List Entry → Bool
is_known n history = nat_lt 0 (uses n (known history))

-- whether some seat keeps the spare n
abbrev pub some_keeps : ℕ → List SeatWithOffer → Bool
some_keeps n [] = false
some_keeps n (s ∷ seats) = (s.seat.spare == n) || some_keeps n seats

-- whether a number has a list that is longer than this
abbrev pub is_longer : ℕ → Option Listing → Bool
is_longer at None = false
is_longer at (Some l) = nat_lt at (length l.words)

-- what an event makes: the machine after it, and its outcome
pub record Happened : Type 0 where
  pub machine : Machine
  pub outcome : Outcome2

abbrev pub happened : Machine → Outcome2 → Happened
happened m outcome = record { machine = m; outcome = outcome }

-- a call begins, which touches no word
abbrev pub begun : Machine → ℕ → SeatWithOffer → Phase → List EntryWords → Machine
begun m i s phase offer = record {
  shape = m.shape;
  words = m.words;
  seats = slice_set m.seats i (with_offer (seat s.seat.pass s.seat.refused s.seat.spare s.seat.marked phase) offer);
  history = m.history;
}

-- a seat takes a turn
abbrev pub taken : Machine → ℕ → SeatWithOffer → Turn → Machine
taken m i s t = record {
  shape = m.shape;
  words = slice_set m.words (next_place m.shape s.seat) t.word;
  seats = slice_set m.seats i (with_offer t.seat s.offer);
  history = m.history ++ t.made;
}

-- the next turn of a seat
abbrev pub next_turn : Machine → SeatWithOffer → Turn
next_turn m s = turn_of m.shape s.offer s.seat (slice_index m.words (next_place m.shape s.seat))

-- a seat takes its next turn
abbrev pub turn_taken : Machine → ℕ → SeatWithOffer → Happened
turn_taken m i s = happened (taken m i s (next_turn m s)) (next_turn m s).outcome

-- a call that begins in this phase, with this offer, where it may
abbrev pub begins_if : Bool → Machine → ℕ → SeatWithOffer → Phase → List EntryWords → Option Happened
begins_if may m i s phase offer = if is_idle s.seat.phase && may then Some (happened (begun m i s phase offer) Going) else None

abbrev pub after_act : Machine → ℕ → SeatWithOffer → Act → Option Happened
after_act m i s (Ask key) = begins_if true m i s (first_phase s.seat.spare s.seat.marked key) s.offer
after_act m i s (Look n) = begins_if (is_known n m.history) m i s (LookingOne n) s.offer
after_act m i s (FetchLen n) = begins_if (is_known n m.history) m i s (MeasuringList n) s.offer
after_act m i s (FetchEntry n at) = begins_if (is_longer at (listing_in m.history n)) m i s (FindingEntry n at) s.offer
after_act m i s (Offer n words) = begins_if (is_known n m.history && nat_le (length words) 4096) m i s (Offering n (length words)) words
after_act m i s act = if is_next s.seat.phase act then Some (turn_taken m i s) else None

abbrev pub after_of : Machine → ℕ → Option SeatWithOffer → Act → Option Happened
after_of m i None act = None
after_of m i (Some s) act = after_act m i s act

-- what an event makes, if it is the next one of its seat
abbrev pub after_event : Machine → Event → Option Happened
after_event m e = after_of m e.seat (slice_get m.seats e.seat) e.act

abbrev pub after_first : Option Happened → (Machine → Option Machine) → Option Machine
after_first None f = None
after_first (Some h) f = f h.machine

-- the machine after all events, if each is the next one of its seat
abbrev pub after_all : Machine → List Event → Option Machine
after_all m [] = Some m
after_all m (e ∷ es) = after_first (after_event m e) (λ n. after_all n es)

-- what the interner keeps, with seat i as pass i
pub record IsKept (m : Machine) : Type 0 where
  pub kept : Kept m.shape m.words (seats_of m.seats) m.history
  pub lists : KeptLists m.shape m.words m.seats m.history
  pub numbered : (i : ℕ) (s : Seat) → get_elem? (seats_of m.seats) i ≡ some s → s.pass ≡ i

-- the event with this number is the first that isn't its seat's next one
abbrev pub IsRefusedAt : Machine → List Event → RunCoreFault → Type 0
IsRefusedAt m events Memory = Unit {0}
IsRefusedAt m events (NotEnabled k) =
    (before : Machine) × (e : Event) × (after_all m (take k events) ≡ Some before) × (slice_get events k ≡ Some e) × (after_event before e ≡ None)

-- An outcome is that of the entry made: a call is answered what its entry says, a list is published, or lost to an earlier one, and no
-- other outcome comes with an entry.
abbrev pub IsOutcomeOf : ℕ → List Entry → Outcome2 → Type 0
IsOutcomeOf pass made (Answered reply) = (key : Key) × (made ≡ entry.Call pass key reply ∷ [])
IsOutcomeOf pass made Going = made ≡ []
IsOutcomeOf pass made (Found key) = made ≡ []
IsOutcomeOf pass made (Length len) = made ≡ []
IsOutcomeOf pass made (Got words) = made ≡ []
IsOutcomeOf pass made (Offered First) = (number : ℕ) × (offer : List EntryWords) × (made ≡ entry.List pass number offer ∷ [])
IsOutcomeOf pass made (Offered Already) = (made ≡ []) ⊎ ((number len : ℕ) × (made ≡ entry.Lost pass number len ∷ []))
IsOutcomeOf pass made (Offered NoRoom) = made ≡ []
