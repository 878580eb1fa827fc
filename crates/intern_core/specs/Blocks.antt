-- What holds of lists and blocks between any two steps.
use Rattle.std.specs.Prelude.{◌≡◌, ◌≢◌, ℕ, zero, suc, ◌+◌, ◌*◌, ◌<◌, ◌≤◌, ◌&&◌, nat_lt, nat_le, min, List, [], ◌∷◌, length, take, slice_index, Option, Some, None}
use mathlib.Core.Option.{some}
use lib.ListN.{get_elem?}
use Rattle.intern_core.specs.declared.shape.Shape.{Shape}
use Rattle.intern_core.specs.declared.history.EntryWords.{EntryWords}
use Rattle.intern_core.specs.declared.history.Entry.{Entry}
use Rattle.intern_core.specs.declared.history.Entry.TheVariants as entry
use Rattle.intern_core.specs.declared.seat.Phase.{Phase}
use Rattle.intern_core.specs.declared.seat.Phase.TheVariants.{FindingEntry, ReadingOne, ReadingTwo, ReadingThree, Offering, ClaimingBlock, StoringWord, SwappingList}
use Rattle.intern_core.specs.declared.seat.SeatWithOffer.{SeatWithOffer}
use Rattle.intern_core.specs.Layout.{entries_at, list_at, block_at}
use Rattle.intern_core.specs.History.{Listing, listing_in, one_if}
use Rattle.intern_core.specs.Image.{flat, Holds}
use Rattle.intern_core.specs.Kept.{total}
use Rattle.intern_core.specs.Turns.{start_in}

-- the lengths of all lists of a history, published and lost, added up
abbrev pub taken_by : List Entry → ℕ
taken_by [] = 0
taken_by (entry.List pass number words ∷ es) = length words + taken_by es
taken_by (entry.Lost pass number len ∷ es) = len + taken_by es
taken_by (other ∷ es) = taken_by es

-- how many entries a call in flight has claimed
abbrev pub claimed_in : Phase → ℕ
claimed_in (StoringWord number start len stored) = len
claimed_in (SwappingList number start len) = len
claimed_in other = 0

abbrev pub held : SeatWithOffer → ℕ
held s = claimed_in s.seat.phase

-- the length that was refused
abbrev pub length_of : Option ℕ → ℕ
length_of None = 0
length_of (Some len) = len

abbrev pub refused_length : SeatWithOffer → ℕ
refused_length s = length_of s.seat.refused

-- whether an entry is among so many from this one on
abbrev pub covers : ℕ → ℕ → ℕ → ℕ
covers start len index = one_if (nat_le start index && nat_lt index (start + len))

-- whether an entry is in the block of a call in flight
abbrev pub covers_in : Phase → ℕ → ℕ
covers_in (StoringWord number start len stored) index = covers start len index
covers_in (SwappingList number start len) index = covers start len index
covers_in other index = 0

abbrev pub holds_entry : ℕ → SeatWithOffer → ℕ
holds_entry index s = covers_in s.seat.phase index

-- whether an entry is in the block that a list word names
abbrev pub covers_list : ℕ → Option Listing → ℕ → ℕ
covers_list word None index = 0
covers_list word (Some l) index = covers (start_in word) (length l.words) index

-- how many of the numbers from 1 to this have a published block with the entry
abbrev pub published_with : List ℕ → List Entry → ℕ → ℕ → ℕ
published_with words history index zero = 0
published_with words history index (suc n) =
    covers_list (slice_index words (list_at (suc n))) (listing_in history (suc n)) index + published_with words history index n

-- the pass has not published this list
abbrev pub IsNotBy : ℕ → Option Listing → Type 0
IsNotBy pass None = Unit {0}
IsNotBy pass (Some l) = l.pass ≢ pass

-- a number's list is longer than this
abbrev pub IsLongerThan : ℕ → Option Listing → Type 0
IsLongerThan at None = ⊥
IsLongerThan at (Some l) = at < length l.words

-- an entry of the table is the one with this place in the list of a number
abbrev pub IsEntryOf : Shape → List ℕ → List Entry → ℕ → ℕ → ℕ → Type 0
IsEntryOf shape words history number at index =
    (0 < number) × (number ≤ shape.nodes) × IsLongerThan at (listing_in history number) × (index ≡ start_in (slice_index words (list_at number)) + at)

-- the words that are offered have this length
abbrev pub IsOffer : List EntryWords → ℕ → Type 0
IsOffer offer len = (length offer ≡ len) × (len ≤ 4096)

-- a call that may publish: its pass has had no refusal, and no list of its own for the number
abbrev pub MayPublish : List Entry → ℕ → Option ℕ → List EntryWords → ℕ → ℕ → Type 0
MayPublish history pass refused offer number len = IsOffer offer len × (refused ≡ None) × IsNotBy pass (listing_in history number)

-- how far a call on lists has come
abbrev pub HasListed : Shape → List ℕ → List Entry → ℕ → Option ℕ → List EntryWords → Phase → Type 0
HasListed shape words history p refused offer (FindingEntry number at) = IsLongerThan at (listing_in history number)
HasListed shape words history p refused offer (ReadingOne number at index) = IsEntryOf shape words history number at index
HasListed shape words history p refused offer (ReadingTwo number at index one) =
    IsEntryOf shape words history number at index × (slice_index words (block_at shape index) ≡ one)
HasListed shape words history p refused offer (ReadingThree number at index one two) =
    IsEntryOf shape words history number at index × (slice_index words (block_at shape index) ≡ one)
    × (slice_index words (block_at shape index + 1) ≡ two)
HasListed shape words history p refused offer (Offering number len) = IsOffer offer len
HasListed shape words history p refused offer (ClaimingBlock number len) = MayPublish history p refused offer number len
HasListed shape words history p refused offer (StoringWord number start len stored) =
    MayPublish history p refused offer number len × (start + len ≤ shape.entries) × (stored < 3 * len)
    × Holds words (block_at shape start) (take stored (flat offer))
HasListed shape words history p refused offer (SwappingList number start len) =
    MayPublish history p refused offer number len × (start + len ≤ shape.entries) × Holds words (block_at shape start) (flat offer)
HasListed shape words history p refused offer other = Unit {0}

-- what holds of a seat
pub record IsListSeat (shape : Shape) (words : List ℕ) (history : List Entry) (s : SeatWithOffer) : Type 0 where
  pub small : length_of s.seat.refused ≤ 4096
  pub listed : HasListed shape words history s.seat.pass s.seat.refused s.offer s.seat.phase

-- The claim word of the entries is the sum of all lengths that claimed some; those that were not refused fit the table. No entry
-- is in two blocks, published or in flight, and each block ends within the table and within what was claimed.
pub record KeptLists (shape : Shape) (words : List ℕ) (seats : List SeatWithOffer) (history : List Entry) : Type 0 where
  pub sum : slice_index words entries_at ≡ taken_by history + total held seats + total refused_length seats
  pub room : taken_by history + total held seats ≤ shape.entries
  pub blocks : (index : ℕ) → published_with words history index shape.nodes + total (holds_entry index) seats
      ≤ one_if (nat_lt index (min (slice_index words entries_at) shape.entries))
  pub each : (i : ℕ) (s : SeatWithOffer) → get_elem? seats i ≡ some s → IsListSeat shape words history s
