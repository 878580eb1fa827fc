use Rattle.std.proofs.Common.{ℕ, ◌<◌, get_or}
use Rattle.node_orders.specs.Graphs.{EdgeOf}
use Rattle.node_orders.proofs.cycles.do_fall.Given as goal

abbrev pub invariant-loop-at : goal.invariant-loop-at
invariant-loop-at l = (c : ℕ) → c < l.at → (d : ℕ) → EdgeOf l.edges c d → get_or l.ranks d 0 < get_or l.ranks c 0
