-- The call has ended with what the last seat says, or it is in flight; and it is nearer to its end at each step.
use Rattle.std.proofs.Common.{◌≡◌}
use Rattle.intern_core.specs.Pace.{answer_in}
use Rattle.chain_rule.specs.Pacing.{IsPaced}
use Rattle.chain_rule.specs.Passes.{Belongs}
use Rattle.term_table.specs.Calls.{steps_left}
use Rattle.term_table.proofs.Calling.{HasCome}
use Rattle.term_table.proofs.interning.walk.Given as goal

abbrev pub invariant-loop-last : goal.invariant-loop-last
invariant-loop-last g l = record {
  own : Belongs l.pass l.table.table_id l.table.setting;
  seat_is : l.seat ≡ l.pass.view.seat;
  paced : IsPaced l.table.setting.shape.nodes l.seat;
  so : HasCome l.table.setting.shape l.fn.key (answer_in l.last.spare l.last.phase) l.fn.steps l.steps l.fn.pass.view l.pass.view;
}

abbrev pub decreases-loop-last : goal.decreases-loop-last
decreases-loop-last g l = steps_left l.table.setting.shape.nodes l.seat.marked l.seat.phase
