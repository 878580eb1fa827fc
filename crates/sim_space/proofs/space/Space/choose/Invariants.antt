use Rattle.std.proofs.Common.{◌≡◌, ◌≤◌, ℕ, sum, take}
use Rattle.sim_space.specs.LoadedLists.{weights_in}
use Rattle.sim_space.proofs.space.Space.choose.Given as goal

abbrev pub invariant-loop-index : goal.invariant-loop-index
invariant-loop-index g l = record {
  sum_is : l.before ≡ sum (take l.index (weights_in (g.Self.Space.list l.self)));
  none : (k : ℕ) → k ≤ l.index → sum (take k (weights_in (g.Self.Space.list l.self))) ≤ l.number;
}
