-- The pass is the table's, and has no call in flight.
use Rattle.std.proofs.Common.{◌≡◌}
use Rattle.intern_core.specs.declared.seat.Phase.TheVariants.{Idle}
use Rattle.chain_rule.specs.Passes.{Belongs}
use Rattle.table_tests.proofs.shared.intern_all.Given as goal

abbrev pub invariant-loop-key : goal.invariant-loop-key
invariant-loop-key l = record {
  own : Belongs l.pass l.table.table_id l.table.setting;
  idle : l.pass.view.seat.phase ≡ Idle;
}
