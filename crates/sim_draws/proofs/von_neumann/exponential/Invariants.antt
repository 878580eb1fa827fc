use Rattle.std.proofs.Common.{◌≡◌, ◌+◌, ◌*◌, ◌<◌, ◌≤◌, ℕ}
use Rattle.sim_draws.specs.Numbers.{next_numbers}
use Rattle.sim_draws.specs.ExponentialDraw.{after_rounds, RoundDecides}
use Rattle.sim_draws.proofs.von_neumann.exponential.Given as goal

-- no round so far decides, and the numbers after them are left
abbrev pub invariant-loop-left : goal.invariant-loop-left
invariant-loop-left g l = record {
  same : g.N.Numbers.at l.from ≡ g.N.Numbers.at l.fn.from;
  place : g.N.Numbers.place l.from + l.left ≡ g.N.Numbers.place l.fn.from + 256;
  few : 3 * l.rounds + l.left ≤ 256;
  reached : after_rounds l.rounds (next_numbers (g.N.Numbers.at l.fn.from) (g.N.Numbers.place l.fn.from) 256)
      ≡ next_numbers (g.N.Numbers.at l.fn.from) (g.N.Numbers.place l.from) l.left;
  none : (n : ℕ) → n < l.rounds
      → RoundDecides (next_numbers (g.N.Numbers.at l.fn.from) (g.N.Numbers.place l.fn.from) 256) n → ⊥;
}

abbrev pub decreases-loop-left : goal.decreases-loop-left
decreases-loop-left g l = l.left
