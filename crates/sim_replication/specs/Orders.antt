-- Which orders are in range, and from which numbers a replication draws.
use Rattle.std.specs.Prelude.{ℕ, ◌*◌, ◌<◌, ◌≤◌, ◌^◌}
use Rattle.sim_draws.specs.Streams.{seed_key, stream_number}
use Rattle.sim_replication.specs.declared.order.Order.{Order}

-- the first number is at least 1 and at most the second
abbrev pub IsUpTo : ℕ → ℕ → Type 0
IsUpTo n most = (1 ≤ n) × (n ≤ most)

-- what may be ordered: all numbers but the seed are from 1 to a limit of their own, the nodes and the entries from 8, and all
-- replications together have at most ten million passages
pub record IsOrderInRange (order : Order) : Type 0 where
  pub seed : order.seed < 2 ^ 64
  pub runs : IsUpTo order.runs 1000000
  pub passages : IsUpTo order.passages 1000000
  pub jumps : IsUpTo order.jumps 1000000000
  pub workers : IsUpTo order.workers 64
  pub table : (8 ≤ order.table) × (order.table ≤ 4194304)
  pub entries : (8 ≤ order.entries) × (order.entries ≤ 16777216)
  pub bin : IsUpTo order.bin 1000000
  pub bins : IsUpTo order.bins 10000
  pub all_passages : order.runs * order.passages ≤ 10000000

-- the numbers of a replication: those of the stream of its number under the key of the seed
abbrev pub numbers_of : Order → ℕ → ℕ → ℕ
numbers_of order number = stream_number (seed_key order.seed) number
