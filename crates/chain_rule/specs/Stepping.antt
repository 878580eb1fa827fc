-- When a step is the next one of a pass, and what a pass keeps.
use Rattle.std.specs.Prelude.{◌≡◌, ℕ, ◌+◌, ◌-◌, ◌*◌, ◌<◌, ◌⊎◌, true, List, [], Option, Some, None, length, slice_index}
use Rattle.intern_core.specs.declared.history.Key.{Key}
use Rattle.intern_core.specs.declared.seat.Seat.{Seat}
use Rattle.intern_core.specs.declared.seat.Phase.{Phase}
use Rattle.intern_core.specs.declared.seat.Phase.TheVariants.{Linking, Swapping, AtOne, AtTwo, LookingOne, LookingTwo, MeasuringList, FindingEntry, ReadingOne, ReadingTwo, ReadingThree, Offering, ClaimingBlock, StoringWord, SwappingList}
use Rattle.intern_core.specs.declared.shape.Shape.{Shape}
use Rattle.intern_core.specs.declared.history.Entry.{Entry}
use Rattle.intern_core.specs.declared.history.EntryWords.{EntryWords}
use Rattle.intern_core.specs.History.{Listing, listing_in, known, uses}
use Rattle.intern_core.specs.Image.{IsImage, flat}
use Rattle.intern_core.specs.Blocks.{IsLongerThan, taken_by}
use Rattle.intern_core.specs.Turns.{first_phase}
use Rattle.chain_rule.specs.declared.begins.Begins.{Begins}
use Rattle.chain_rule.specs.declared.begins.Begins.TheVariants.{FetchLen, FetchEntry, Offer}
use Rattle.chain_rule.specs.Told.{seat_begun}

-- the phase in which a call for a key begins at a seat
abbrev pub ask_phase : Key → Seat → Phase
ask_phase key s = first_phase s.spare s.marked key

-- a seat whose call for a key has begun
abbrev pub asking : Key → Seat → Seat
asking key s = seat_begun (ask_phase key s) [] s

-- a seat whose look at a number has begun
abbrev pub looking : ℕ → Seat → Seat
looking n s = seat_begun (LookingOne n) [] s

-- next is the load of a link, for a call for this key
abbrev pub IsLinking : Key → Phase → Type 0
IsLinking key (Linking k from passed) = k ≡ key
IsLinking key other = ⊥

-- next is the exchange of a link, for a call for this key
abbrev pub IsSwapping : Key → Phase → Type 0
IsSwapping key (Swapping k from passed) = k ≡ key
IsSwapping key other = ⊥

-- next is the load of this node's first key word
abbrev pub IsAtOne : ℕ → Phase → Type 0
IsAtOne n (AtOne key node passed) = node ≡ n
IsAtOne n (LookingOne node) = node ≡ n
IsAtOne n other = ⊥

-- next is the load of this node's second key word
abbrev pub IsAtTwo : ℕ → Phase → Type 0
IsAtTwo n (AtTwo key node passed) = node ≡ n
IsAtTwo n (LookingTwo node one) = node ≡ n
IsAtTwo n other = ⊥

-- some words whose history is this front have this word at this place
abbrev pub MayFind : Shape → List Entry → ℕ → ℕ → Type 0
MayFind shape front place found = (words : List ℕ) × IsImage shape words front × (slice_index words place ≡ found)

-- a seat keeps this spare, where 0 is none
abbrev pub IsSpare : Option ℕ → ℕ → Type 0
IsSpare None spare = spare ≡ 0
IsSpare (Some n) spare = (0 < n) × (spare ≡ n)

-- a seat keeps a spare, or is marked full
abbrev pub HasSpareOrMark : Seat → Type 0
HasSpareOrMark s = (0 < s.spare) ⊎ (s.marked ≡ true)

-- the phase in which a call on the list of a number begins; the words of an offer are told where its block is claimed
abbrev pub list_phase : ℕ → Begins → Phase
list_phase number FetchLen = MeasuringList number
list_phase number (FetchEntry at) = FindingEntry number at
list_phase number Offer = Offering number 0

-- a call on the list of a number may begin: the front knows the number, or has a list for it that is longer than this
abbrev pub MayBeginList : List Entry → ℕ → Begins → Type 0
MayBeginList front number FetchLen = 0 < uses number (known front)
MayBeginList front number (FetchEntry at) = IsLongerThan at (listing_in front number)
MayBeginList front number Offer = 0 < uses number (known front)

-- next is the load of this word of a number's list
abbrev pub IsReading : ℕ → ℕ → Phase → Type 0
IsReading number at (ReadingOne n entry index) = (n ≡ number) × (at ≡ 3 * entry)
IsReading number at (ReadingTwo n entry index one) = (n ≡ number) × (at ≡ 3 * entry + 1)
IsReading number at (ReadingThree n entry index one two) = (n ≡ number) × (at ≡ 3 * entry + 2)
IsReading number at other = ⊥

-- next is the claim of a block, for an offer for this number
abbrev pub IsClaimingBlock : ℕ → Phase → Type 0
IsClaimingBlock number (ClaimingBlock n len) = n ≡ number
IsClaimingBlock number other = ⊥

-- next is the store of this word of the block
abbrev pub IsStoringWord : ℕ → Phase → Type 0
IsStoringWord at (StoringWord number start len stored) = stored ≡ at
IsStoringWord at other = ⊥

-- next is the exchange of the list word of this number
abbrev pub IsSwappingList : ℕ → Phase → Type 0
IsSwappingList number (SwappingList n start len) = n ≡ number
IsSwappingList number other = ⊥

-- a word of the list that a front has for a number, three for each entry
abbrev pub IsListedWord : List Entry → ℕ → ℕ → ℕ → Type 0
IsListedWord front number at word =
    (l : Listing) × (listing_in front number ≡ Some l) × (at < 3 * length l.words) × (slice_index (flat l.words) at ≡ word)

-- there may be no room for these words: with the lists of a front, and 4,096 entries for each other pass, they are more than the entries
abbrev pub LacksRoom : Shape → List EntryWords → List Entry → Type 0
LacksRoom shape words front = shape.entries < taken_by front + length words + (shape.passes - 1) * 4096
