-- A seat's next turn as the running code has it, and when a call may begin.
use Rattle.std.specs.Prelude.{◌≡◌, ℕ, List, option_to_list}
use Rattle.intern_core.specs.declared.history.EntryWords.{EntryWords}
use Rattle.intern_core.specs.declared.history.Entry.{Entry}
use Rattle.intern_core.specs.declared.seat.Seat.{Seat}
use Rattle.intern_core.specs.declared.machine.Next.{Next}
use Rattle.intern_core.specs.declared.seat.SeatWithOffer.{SeatWithOffer}
use Rattle.intern_core.specs.declared.seat.Phase.{Phase}
use Rattle.intern_core.specs.declared.seat.Phase.TheVariants.{Idle}
use Rattle.intern_core.specs.History.{known}
use Rattle.intern_core.specs.Kept.{HasReached}
use Rattle.intern_core.specs.Blocks.{claimed_in, covers_in, HasListed}
use Rattle.intern_core.specs.Turns.{next_place}
use Rattle.intern_core.specs.Machine.{Machine, next_turn}

-- the parts of a seat's next turn
pub record IsNext (m : Machine) (s : SeatWithOffer) (next : Next) : Type 0 where
  pub at : next.at ≡ next_place m.shape s.seat
  pub word : next.word ≡ (next_turn m s).word
  pub seat : next.seat ≡ (next_turn m s).seat
  pub made : option_to_list next.made ≡ (next_turn m s).made
  pub outcome : next.outcome ≡ (next_turn m s).outcome

-- what a seat's next turn writes and makes
pub record IsPut (m : Machine) (s : SeatWithOffer) (place written : ℕ) (now : Seat) (made : List Entry) : Type 0 where
  pub at : place ≡ next_place m.shape s.seat
  pub word : written ≡ (next_turn m s).word
  pub seat : now ≡ (next_turn m s).seat
  pub made_is : (next_turn m s).made ≡ made

-- an idle seat may begin a call in this phase, with this offer
pub record MayBegin (m : Machine) (s : SeatWithOffer) (phase : Phase) (offer : List EntryWords) : Type 0 where
  pub idle : s.seat.phase ≡ Idle
  pub none : claimed_in phase ≡ 0
  pub free : (index : ℕ) → covers_in phase index ≡ 0
  pub reached : HasReached m.shape m.words (known m.history) s.seat.spare s.seat.marked phase
  pub listed : HasListed m.shape m.words m.history s.seat.pass s.seat.refused offer phase
