-- A source whose bytes lie in memory: what its next read does.
use Rattle.std.specs.Prelude.{◌≡◌, ℕ, ◌==◌, if◌then◌else◌, Bool, Result, Ok, Err, List, length, take, drop, min}
use Rattle.std.specs.List.{list_any}
use Rattle.sim_outside.specs.Faults.{next_count}
use Rattle.sim_outside.specs.declared.source.Failed.{Failed}

-- the bytes left, the most that a read gives, the numbers of the calls that fail, and how many calls were made and
-- how many failed
pub record SourceState : Type 0 where
  pub left : List ℕ
  pub chunk : ℕ
  pub failing : List ℕ
  pub calls : ℕ
  pub faults : ℕ

-- the next call is one of those that fail: they are numbered from 1
abbrev pub fails_next : SourceState → Bool
fails_next state = list_any (λ call. call == next_count state.calls) state.failing

-- how many bytes the next read gives, where it does not fail, into a buffer of so many bytes
abbrev pub read_len : SourceState → ℕ → ℕ
read_len state len = min (min state.chunk len) (length state.left)

-- the answer of the next read
abbrev pub read_answer : SourceState → ℕ → Result ℕ Failed
read_answer state len = if fails_next state then Err (record {}) else Ok (read_len state len)

-- the source after that read
abbrev pub after_read : SourceState → ℕ → SourceState
after_read state len =
    if fails_next state
    then record state { calls = next_count state.calls; faults = next_count state.faults }
    else record state { calls = next_count state.calls; left = drop (read_len state len) state.left }

-- the bytes that the next read gives into a buffer of so many bytes, or that it fails
abbrev pub read_gives : SourceState → ℕ → Result (List ℕ) Failed
read_gives state len = if fails_next state then Err (record {}) else Ok (take (read_len state len) state.left)

-- a read gives these bytes, and leaves the source so
abbrev pub IsMemRead : SourceState → ℕ → Result (List ℕ) Failed → SourceState → Type 0
IsMemRead state len given after = (given ≡ read_gives state len) × (after ≡ after_read state len)
