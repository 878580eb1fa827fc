-- Lists of nodes with their ranks.
use Rattle.std.specs.Prelude.{◌≡◌, ℕ, ◌<◌, List, length, slice_index, Some, slice_get}
use Rattle.node_orders.specs.declared.orders.Ranked.{Ranked}

-- the first nodes, so many, in ascending order, each with its rank
pub record AreRanked (ranks : List ℕ) (count : ℕ) (list : List Ranked) : Type 0 where
  pub one_each : length list ≡ count
  pub each : (k : ℕ) → k < count → slice_get list k ≡ Some (record { rank = slice_index ranks k; node = k })
