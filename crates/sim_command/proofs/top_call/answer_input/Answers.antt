use Rattle.std.proofs.Common.{arith, ◌≡◌}
use Rattle.sim_command.proofs.Statuses.{no_fault, not_a_read_fault}
use Rattle.sim_command.proofs.DeviceCalls.{not_written, delivered}
use Rattle.sim_command.proofs.top_call.answer_input.Goals as goal

pub returns-in-Ok-clause-out_calls : goal.returns-in-Ok-clause-out_calls
returns-in-Ok-clause-out_calls g c =
    delivered g.K.Sink.one_write c.args.out.now c.in-Ok.answered.out c.in-Ok.answered.status c.deliver.result.status c.deliver.new.out
    (no_fault c.args.command.now c.args.input.now c.in-Ok.answered c.in-Ok.ensures).1 c.deliver.ensures.out_calls

pub returns-in-Err-clause-out_calls : goal.returns-in-Err-clause-out_calls
returns-in-Err-clause-out_calls g c =
    not_written g.K.Sink.one_write c.args.out.now c.refused.result.status (λ five. let h : c.refused.result.status ≡ 5 = five in omega (arith, h, c.refused.ensures.status))

pub returns-in-Ok-clause-no_read_fault : goal.returns-in-Ok-clause-no_read_fault
returns-in-Ok-clause-no_read_fault g c =
    not_a_read_fault c.in-Ok.answered _ _ c.deliver.result.status (no_fault c.args.command.now c.args.input.now c.in-Ok.answered c.in-Ok.ensures).0 c.deliver.ensures.ending
