use Rattle.std.proofs.Common.{ℕ, ◌<◌, get_or}
use Rattle.node_orders.proofs.cycles.are_lower.Given as goal

abbrev pub invariant-loop-target : goal.invariant-loop-target
invariant-loop-target l = (k : ℕ) → k < l.target-index → get_or l.ranks (get_or l.targets k 0) 0 < l.rank
