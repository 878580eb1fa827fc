-- A sink that keeps its bytes in memory: what its next write does.
use Rattle.std.specs.Prelude.{◌≡◌, ℕ, ◌-◌, ◌==◌, ◌||◌, ◌&&◌, nat_lt, if◌then◌else◌, Bool, Result, Ok, Err, List, ◌++◌, length, take, min}
use Rattle.std.specs.List.{list_any}
use Rattle.sim_outside.specs.Faults.{next_count}
use Rattle.sim_outside.specs.declared.source.Failed.{Failed}

-- the bytes written, how many more there is room for, the most that a write takes, the numbers of the calls that fail,
-- and how many calls were made and how many failed
pub record SinkState : Type 0 where
  pub written : List ℕ
  pub room : ℕ
  pub chunk : ℕ
  pub failing : List ℕ
  pub calls : ℕ
  pub faults : ℕ

-- the next write, of a piece of so many bytes, fails: it is one of those that do, numbered from 1, or has no room
abbrev pub fails_write : SinkState → ℕ → Bool
fails_write state len =
    list_any (λ call. call == next_count state.calls) state.failing || (nat_lt 0 len && (state.room == 0))

-- how many bytes the next write takes, where it does not fail
abbrev pub write_len : SinkState → ℕ → ℕ
write_len state len = min (min state.chunk len) state.room

-- the answer of the next write
abbrev pub write_answer : SinkState → ℕ → Result ℕ Failed
write_answer state len = if fails_write state len then Err (record {}) else Ok (write_len state len)

-- the sink after that write
abbrev pub after_write : SinkState → List ℕ → SinkState
after_write state piece =
    let count = write_len state (length piece) in
    if fails_write state (length piece)
    then record state { calls = next_count state.calls; faults = next_count state.faults }
    else record state {
      calls = next_count state.calls;
      written = state.written ++ take count piece;
      room = state.room - count;
    }

-- a write answers so, and leaves the sink so
abbrev pub IsMemWrite : SinkState → List ℕ → Result ℕ Failed → SinkState → Type 0
IsMemWrite state piece answer after = (answer ≡ write_answer state (length piece)) × (after ≡ after_write state piece)
