-- How far the call of a seat can have come.
use Rattle.std.specs.Prelude.{◌≡◌, ℕ, ◌+◌, ◌*◌, ◌<◌, ◌≤◌, false}
use Rattle.intern_core.specs.declared.history.Key.{Key}
use Rattle.intern_core.specs.declared.seat.Seat.{Seat}
use Rattle.intern_core.specs.declared.seat.Phase.{Phase}
use Rattle.intern_core.specs.declared.seat.Phase.TheVariants.{Claiming, StoringTwo, SwappingList}
use Rattle.intern_core.specs.Pace.{pace}

-- the list word of a block that is stored fits 64 bits
abbrev pub FitsListWord : Phase → Type 0
FitsListWord (SwappingList number start len) = start < 4294967295
FitsListWord other = Unit {0}

-- what is known of a seat of a table with so many nodes
pub record IsPaced (nodes : ℕ) (s : Seat) : Type 0 where
  pub low : pace s.marked s.phase ≤ 4 * nodes + 6
  pub stores : (k : Key) → s.phase ≡ StoringTwo k → s.marked ≡ false
  pub claims : (k : Key) → s.phase ≡ Claiming k → s.marked ≡ false
  pub block : FitsListWord s.phase
