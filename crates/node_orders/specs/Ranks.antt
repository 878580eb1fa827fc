-- Ranks of numbered nodes, and what a search for one that reaches itself finds.
use Rattle.std.specs.Prelude.{◌≡◌, ℕ, suc, ◌<◌, Bool, List, length, slice_index, count_by}
use Rattle.node_orders.specs.declared.cycles.CycleOrOrder.{CycleOrOrder}
use Rattle.node_orders.specs.declared.cycles.CycleOrOrder.TheVariants.{Cycle, Order}
use Rattle.node_orders.specs.Cycles.{ReachesIn, ReachesItself, IsFirstCycle, HasNoCycle}
use Rattle.node_orders.specs.Graphs.{EdgeOf, IsTableOf, IsOrder}

-- the second has a rank, and it is less than that of the first
abbrev pub IsRankedAbove : List ℕ → ℕ → ℕ → Type 0
IsRankedAbove ranks c d = (d < length ranks) × (slice_index ranks d < slice_index ranks c)

-- a rank for each of so many nodes, which falls along each edge
pub record AreRanks (Edge : ℕ → ℕ → Type 0) (count : ℕ) (ranks : List ℕ) : Type 0 where
  pub one_each : length ranks ≡ count
  pub fall : (c d : ℕ) → Edge c d → slice_index ranks d < slice_index ranks c

-- one edge or more lead from one to the other
abbrev pub LeadsOn : (ℕ → ℕ → Type 0) → ℕ → ℕ → Type 0
LeadsOn Edge c d = (n : ℕ) × ReachesIn Edge (suc n) c d

-- a node that doesn't reach itself leads on to so many
pub record HasReach (edges : List (List ℕ)) (c : ℕ) (reach : ℕ) : Type 0 where
  pub not_back : ¬ ReachesItself (EdgeOf edges) c
  pub table : List Bool
  pub one_each : length table ≡ length edges
  pub table_is : IsTableOf (LeadsOn (EdgeOf edges) c) table
  pub reach_is : reach ≡ count_by (λ marked. marked) table

-- what is found: the least node that reaches itself, or an order of so many nodes, where none does
abbrev pub IsCycleOrOrder : (ℕ → ℕ → Type 0) → ℕ → CycleOrOrder → Type 0
IsCycleOrOrder Edge count (Cycle c) = IsFirstCycle Edge c
IsCycleOrOrder Edge count (Order order) = HasNoCycle Edge × IsOrder Edge count order
