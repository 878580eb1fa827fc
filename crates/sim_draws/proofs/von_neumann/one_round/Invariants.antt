use Rattle.std.proofs.Common.{◌≡◌, ◌+◌, ◌-◌}
use Rattle.sim_draws.specs.Numbers.{next_numbers}
use Rattle.sim_draws.specs.ExponentialDraw.{run_length, falls_below}
use Rattle.sim_draws.proofs.von_neumann.one_round.Given as goal

-- the numbers read so far fall, and the run goes on with those that go on falling
abbrev pub invariant-loop-run : goal.invariant-loop-run
invariant-loop-run g l = record {
  same : g.N.Numbers.at l.from ≡ g.N.Numbers.at l.fn.from;
  place : g.N.Numbers.place l.from ≡ g.N.Numbers.place l.fn.from + l.run;
  front : run_length (next_numbers (g.N.Numbers.at l.fn.from) (g.N.Numbers.place l.fn.from) l.most)
      ≡ l.run + falls_below l.previous (next_numbers (g.N.Numbers.at l.fn.from) (g.N.Numbers.place l.from) (l.most - l.run));
}
