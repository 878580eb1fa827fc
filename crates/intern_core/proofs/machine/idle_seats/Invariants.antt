-- There is a seat for each pass so far.
use Rattle.std.proofs.Common.{◌≡◌}
use Rattle.intern_core.specs.Machine.{idle_seats}
use Rattle.intern_core.proofs.machine.idle_seats.Given as goal

abbrev pub invariant-loop-pass : goal.invariant-loop-pass
invariant-loop-pass l = l.seats.items ≡ idle_seats l.pass
