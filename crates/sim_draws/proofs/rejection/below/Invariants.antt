use Rattle.std.proofs.Common.{◌≡◌, ◌+◌, ◌<◌, ◌≤◌, ℕ}
use Rattle.sim_draws.specs.FairDraw.{fair_limit}
use Rattle.sim_draws.proofs.rejection.below.Given as goal

abbrev pub invariant-loop-taken : goal.invariant-loop-taken
invariant-loop-taken g l = record {
  same : g.N.Numbers.at l.from ≡ g.N.Numbers.at l.fn.from;
  place : g.N.Numbers.place l.from ≡ g.N.Numbers.place l.fn.from + l._taken;
  none : (k : ℕ) → k < l._taken → fair_limit l.bound ≤ g.N.Numbers.at l.fn.from (g.N.Numbers.place l.fn.from + k);
}
