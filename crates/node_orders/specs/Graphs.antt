-- Graphs of numbered nodes, by the list of each one's successors.
use Rattle.std.specs.Prelude.{◌≡◌, ℕ, ◌<◌, ◌≤◌, Bool, true, List, ◌∷◌, ◌++◌, length, Some, slice_get}
use Rattle.std.specs.List.{Contains}
use Rattle.node_orders.specs.Cycles.{ReachesIn}

-- the second stands in the list of the first
abbrev pub EdgeOf : List (List ℕ) → ℕ → ℕ → Type 0
EdgeOf edges c d = (targets : List ℕ) × (slice_get edges c ≡ Some targets) × Contains targets d

-- each number in a list is below this one
abbrev pub AreBelow : ℕ → List ℕ → Type 0
AreBelow n targets = (d : ℕ) → Contains targets d → d < n

-- so is each number in the lists
abbrev pub HasEdgesBelow : ℕ → List (List ℕ) → Type 0
HasEdgesBelow n edges = (c d : ℕ) → EdgeOf edges c d → d < n

-- the table says yes
abbrev pub SaysYes : List Bool → ℕ → Type 0
SaysYes table d = slice_get table d ≡ Some true

-- it is one of these, or edges lead to it from one of them
abbrev pub IsReached : List (List ℕ) → List ℕ → ℕ → Type 0
IsReached edges from d = (s : ℕ) × Contains from s × ((n : ℕ) × ReachesIn (EdgeOf edges) n s d)

-- the table marks what this holds of
pub record IsTableOf (Holds : ℕ → Type 0) (table : List Bool) : Type 0 where
  pub sound : (d : ℕ) → SaysYes table d → Holds d
  pub complete : (d : ℕ) → Holds d → SaysYes table d

-- an order of the numbers below the count: each one stands in it, behind those that its edges lead to
pub record IsOrder (Edge : ℕ → ℕ → Type 0) (count : ℕ) (order : List ℕ) : Type 0 where
  pub each : (c : ℕ) → c < count → Contains order c
  pub below : AreBelow count order
  pub short : length order ≤ count
  pub behind : (before after : List ℕ) (c d : ℕ) → order ≡ before ++ c ∷ after → Edge c d → Contains before d

-- the lists have these edges
pub record HasTheEdges (Edge : ℕ → ℕ → Type 0) (edges : List (List ℕ)) : Type 0 where
  pub sound : (c d : ℕ) → EdgeOf edges c d → Edge c d
  pub complete : (c d : ℕ) → Edge c d → EdgeOf edges c d
