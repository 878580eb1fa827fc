-- What one step tells its pass.
use Rattle.std.specs.Prelude.{◌≡◌, ℕ, ◌<◌, ◌≤◌, true, List, [], ◌++◌, ◌⊎◌, Some, length, slice_index}
use mathlib.Core.Option.{some}
use lib.ListN.{get_elem?}
use Rattle.atomic_table.specs.Table.{Step, Me}
use Rattle.intern_core.specs.declared.history.Key.{Key}
use Rattle.intern_core.specs.declared.history.EntryWords.{EntryWords}
use Rattle.intern_core.specs.declared.history.Entry.{Entry}
use Rattle.intern_core.specs.declared.seat.Seat.{Seat}
use Rattle.intern_core.specs.declared.seat.Phase.{Phase}
use Rattle.intern_core.specs.declared.seat.SeatWithOffer.{SeatWithOffer}
use Rattle.intern_core.specs.declared.seat.Phase.TheVariants.{Idle, Claiming, StoringOne, StoringTwo, Linking, Swapping, AtOne, AtTwo, LookingOne, LookingTwo, MeasuringList, FindingEntry, ReadingOne, ReadingTwo, ReadingThree, Offering, ClaimingBlock, StoringWord, SwappingList}
use Rattle.intern_core.specs.History.{known, uses, listing_in}
use Rattle.intern_core.specs.Image.{flat, list_word}
use Rattle.intern_core.specs.Turns.{Turn, seat, first_phase, next_place, turn_of}
use Rattle.intern_core.specs.Kept.{Kept}
use Rattle.intern_core.specs.Blocks.{IsLongerThan, KeptLists}
use Rattle.intern_core.specs.Machine.{with_offer, seats_of}
use Rattle.chain_rule.specs.declared.meaning.Setting.{Setting}
use Rattle.chain_rule.specs.declared.view.View.{View}
use Rattle.chain_rule.specs.Rule.{IsFront, own, MeansAfter, no_room, IsCrowded}

-- The phase in which a seat takes its next turn. An idle one begins a call in this phase; and where a block is claimed for an offer, its
-- words are told.
abbrev pub phase_begun : Phase → List EntryWords → Phase → Phase
phase_begun begins words Idle = begins
phase_begun begins words (ClaimingBlock number len) = ClaimingBlock number (length words)
phase_begun begins words other = other

abbrev pub seat_begun : Phase → List EntryWords → Seat → Seat
seat_begun begins words s = seat s.pass s.refused s.spare s.marked (phase_begun begins words s.phase)

-- what a seat in this phase offers once its call has begun, or its words are told
abbrev pub offer_begun : List EntryWords → Phase → List EntryWords → List EntryWords
offer_begun words Idle offer = words
offer_begun words (ClaimingBlock number len) offer = words
offer_begun words other offer = offer

module _ {M : Type 0} where
  abbrev pub view_begun : Phase → List EntryWords → View M → View M
  view_begun begins words v = record v { seat = seat_begun begins words v.seat; offer = offer_begun words v.seat.phase v.offer }

  -- the view after a turn that found this history
  abbrev pub moved : View M → List Entry → Turn → View M
  moved v history t = record v { front = history ++ t.made; mine = v.mine ++ t.made; seat = t.seat }

  module _ (lawful : M → List Entry → Key → Type 0) (allowed : M → Key → Type 0) (stands : M → List Entry → ℕ → List EntryWords → Type 0) where
    -- a call that a pass may begin: for a key that is lawful in its front and allowed; a look at a number that its front knows; of the
    -- length of such a number's list; of an entry of a list in its front; or an offer for such a number
    abbrev pub MayBeginCall : Setting M → View M → Phase → List EntryWords → Type 0
    MayBeginCall key v begins words =
        ((k : Key) × (begins ≡ first_phase v.seat.spare v.seat.marked k) × lawful key.meaning v.front k × allowed key.meaning k)
        ⊎ ((n : ℕ) × (begins ≡ LookingOne n) × (0 < uses n (known v.front)))
        ⊎ (begins ≡ Idle)
        ⊎ ((n : ℕ) × (begins ≡ MeasuringList n) × (0 < uses n (known v.front)))
        ⊎ ((n at : ℕ) × (begins ≡ FindingEntry n at) × IsLongerThan at (listing_in v.front n))
        ⊎ ((n : ℕ) × (begins ≡ Offering n 0) × (words ≡ []) × (0 < uses n (known v.front)))

    -- where a block is claimed, the words that are told are at most 4,096 entries, and stand for the number
    abbrev pub MayTell : Setting M → List Entry → List EntryWords → Phase → Type 0
    MayTell key front words (ClaimingBlock number len) = (length words ≤ 4096) × stands key.meaning front number words
    MayTell key front words other = Unit {0}

    -- The step was this turn: there were words that a history had left, which begins with all that the pass had seen, and the word at
    -- this place was the one found. The pass has then seen that history, and the entry that its turn made, if it made one.
    pub record Turned (key : Setting M) (v : View M) (place found : ℕ) (w : View M) : Type 0 where
      pub words : List ℕ
      pub seats : List SeatWithOffer
      pub index : ℕ
      pub history : List Entry
      pub kept : Kept key.shape words (seats_of seats) history
      pub lists : KeptLists key.shape words seats history
      pub here : get_elem? seats index ≡ some (with_offer v.seat v.offer)
      pub read : slice_index words place ≡ found
      pub front : IsFront v.front history
      pub met : IsFront v.met history
      pub after : w ≡ moved v history (turn_of key.shape v.offer v.seat found)
      pub means : MeansAfter lawful allowed stands key.meaning [] w.front
      pub seen : own w.seat.pass w.front ≡ w.mine
      pub crowded : no_room w.seat ≡ true → IsCrowded key.shape w.front

    -- a pass took its next turn, which begins a call in this phase where the pass is idle, and found this word
    abbrev pub TookTurn : Setting M → Phase → View M → ℕ → View M → Type 0
    TookTurn key begins v found w = Turned key (view_begun begins [] v) (next_place key.shape (seat_begun begins [] v.seat)) found w

    -- a pass claimed a block for these words, and found this word
    abbrev pub TookClaim : Setting M → List EntryWords → View M → ℕ → View M → Type 0
    TookClaim key words v found w = Turned key (view_begun Idle words v) (next_place key.shape (seat_begun Idle words v.seat)) found w

    -- what a play tells
    abbrev pub Tells : Phase → List EntryWords → {S : Type 0} → Step S → Me S (View M) → ℕ → Me S (View M) → Type 0
    Tells begins words st me found now = (now.1 ≡ me.1)
        × ((key : Setting M) → me.0.setting ≡ Some key → me.0.walks ≡ true → Turned key (view_begun begins words me.0) st.word found now.0)

    -- what the play of a store tells, which finds nothing
    abbrev pub TellsStore : Phase → List EntryWords → {S : Type 0} → Step S → Me S (View M) → ℕ → Me S (View M) → Type 0
    TellsStore begins words st me stored now = (now.1 ≡ me.1)
        × ((key : Setting M) → me.0.setting ≡ Some key → me.0.walks ≡ true → (was : ℕ) × Turned key (view_begun begins words me.0) st.word was now.0)

    -- the word at which a pass may take its next turn, as the turn that begins a call where it is idle
    pub record MayTurn (key : Setting M) (begins : Phase) (words : List EntryWords) (v : View M) (place : ℕ) : Type 0 where
      pub walks : v.walks ≡ true
      pub setting : v.setting ≡ Some key
      pub may : v.seat.phase ≡ Idle → MayBeginCall key v begins words
      pub tells : MayTell key v.front words v.seat.phase
      pub here : place ≡ next_place key.shape (seat_begun begins words v.seat)

-- the act of this phase reads a word and leaves it
abbrev pub IsLoad : Phase → Type 0
IsLoad Idle = Unit {0}
IsLoad (Linking key from passed) = Unit {0}
IsLoad (AtOne key node passed) = Unit {0}
IsLoad (AtTwo key node passed) = Unit {0}
IsLoad (LookingOne node) = Unit {0}
IsLoad (LookingTwo node one) = Unit {0}
IsLoad (MeasuringList number) = Unit {0}
IsLoad (FindingEntry number at) = Unit {0}
IsLoad (ReadingOne number at index) = Unit {0}
IsLoad (ReadingTwo number at index one) = Unit {0}
IsLoad (ReadingThree number at index one two) = Unit {0}
IsLoad (Offering number len) = Unit {0}
IsLoad other = ⊥

-- the act of this phase adds this to a word
abbrev pub IsClaim : Phase → ℕ → Type 0
IsClaim (Claiming key) more = more ≡ 1
IsClaim (ClaimingBlock number len) more = more ≡ len
IsClaim other more = ⊥

-- the act of this phase, with this offer, stores this
abbrev pub IsStore : List EntryWords → Phase → ℕ → Type 0
IsStore offer (StoringOne key) new = new ≡ key.one
IsStore offer (StoringTwo key) new = new ≡ key.two
IsStore offer (StoringWord number start len stored) new = new ≡ slice_index (flat offer) stored
IsStore offer other new = ⊥

-- the act of this phase, with this spare, puts this where 0 is
abbrev pub IsSwap : ℕ → Phase → ℕ → Type 0
IsSwap spare (Swapping key from passed) new = new ≡ spare
IsSwap spare (SwappingList number start len) new = new ≡ list_word start len
IsSwap spare other new = ⊥

-- the act of this phase finds a word
abbrev pub Finds : Phase → Type 0
Finds (StoringOne key) = ⊥
Finds (StoringTwo key) = ⊥
Finds (StoringWord number start len stored) = ⊥
Finds other = Unit {0}

-- the act of this phase, with this offer, stores this word of the offer, if it stores one
abbrev pub IsOfferedWord : List EntryWords → Phase → ℕ → Type 0
IsOfferedWord offer (StoringWord number start len stored) word = word ≡ slice_index (flat offer) stored
IsOfferedWord offer other word = Unit {0}
