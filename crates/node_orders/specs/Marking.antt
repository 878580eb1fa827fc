-- Marking numbers in a table, and keeping a queue of the marked ones.
use Rattle.std.specs.Prelude.{◌≡◌, ℕ, ◌+◌, ◌⊎◌, Bool, not, List, ◌++◌, length, count_by}
use Rattle.std.specs.List.{Contains}
use Rattle.node_orders.specs.Graphs.{SaysYes}

-- the queue has the marked numbers
pub record IsQueueOf (seen : List Bool) (queue : List ℕ) : Type 0 where
  pub marked : (d : ℕ) → Contains queue d → SaysYes seen d
  pub queued : (d : ℕ) → SaysYes seen d → Contains queue d

-- what marking the targets makes of a table and of its queue
pub record IsMarking (targets : List ℕ) (seen : List Bool) (queue : List ℕ) (seen2 : List Bool) (queue2 : List ℕ) : Type 0 where
  pub same_length : length seen2 ≡ length seen
  pub kept : (d : ℕ) → SaysYes seen d → SaysYes seen2 d
  pub each : (d : ℕ) → Contains targets d → SaysYes seen2 d
  pub only : (d : ℕ) → SaysYes seen2 d → SaysYes seen d ⊎ Contains targets d
  pub more : List ℕ
  pub behind : queue2 ≡ queue ++ more
  pub queue_of : IsQueueOf seen queue → IsQueueOf seen2 queue2
  pub total : length queue2 + count_by not seen2 ≡ length queue + count_by not seen
