-- The pass is the table's, and has no call in flight.
use Rattle.std.proofs.Common.{◌≡◌}
use Rattle.intern_core.specs.declared.seat.Phase.TheVariants.{Idle}
use Rattle.chain_rule.specs.Passes.{Belongs}
use Rattle.table_tests.proofs.stress.lists_are_there.Given as goal

abbrev pub invariant-loop-i : goal.invariant-loop-i
invariant-loop-i g l = record {
  own : Belongs l.pass l.table.table_id l.table.setting;
  idle : l.pass.view.seat.phase ≡ Idle;
}
