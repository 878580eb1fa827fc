-- What is left of the seats decides.
use Rattle.std.proofs.Common.{◌≡◌, drop}
use Rattle.intern_core.specs.Machine.{some_keeps}
use Rattle.intern_core.proofs.machine.is_spare.Given as goal

abbrev pub invariant-loop-seat : goal.invariant-loop-seat
invariant-loop-seat l = some_keeps l.fn.number (drop l.seat-index l.fn.seats) ≡ some_keeps l.fn.number l.fn.seats
