-- The core is what the events so far have made of it.
use Rattle.std.proofs.Common.{◌≡◌, ◌≤◌, ◌-◌, length, take, Some}
use Rattle.intern_core.specs.Machine.{fresh, after_all}
use Rattle.intern_core.proofs.stepping.run_core.Given as goal

abbrev pub invariant-loop-k : goal.invariant-loop-k
invariant-loop-k l = record {
  low : l.k ≤ length l.events;
  so_far : after_all (fresh l.fn.shape) (take l.k l.events) ≡ Some l.core;
}

abbrev pub decreases-loop-k : goal.decreases-loop-k
decreases-loop-k l = length l.events - l.k
