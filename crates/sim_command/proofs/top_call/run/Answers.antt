use Rattle.std.proofs.Common.{arith, ◌≡◌}
use Rattle.sim_command.proofs.DeviceCalls.{not_written}
use Rattle.sim_command.proofs.GivenCommands.{given_in_range}
use Rattle.sim_command.proofs.top_call.run.Goals as goal

pub run_command-requires : goal.run_command-requires
run_command-requires g c = given_in_range _ _ c.in-Ok.ensures

pub returns-in-Ok-clause-ending : goal.returns-in-Ok-clause-ending
returns-in-Ok-clause-ending g c = c.run_command.ensures.ending _ c.in-Ok.ensures

pub returns-in-Ok-clause-source_calls : goal.returns-in-Ok-clause-source_calls
returns-in-Ok-clause-source_calls g c = c.run_command.ensures.source_calls _ c.in-Ok.ensures

pub returns-in-Err-Usage-clause-out_calls : goal.returns-in-Err-Usage-clause-out_calls
returns-in-Err-Usage-clause-out_calls g c =
    not_written g.K.Sink.one_write c.args.out.now c.refused.result.status (λ five. let h : c.refused.result.status ≡ 5 = five in omega (arith, h, c.refused.ensures.status))

pub returns-in-Err-Memory-clause-out_calls : goal.returns-in-Err-Memory-clause-out_calls
returns-in-Err-Memory-clause-out_calls g c =
    not_written g.K.Sink.one_write c.args.out.now c.refused-in-Err-Memory.result.status (λ five. let h : c.refused-in-Err-Memory.result.status ≡ 5 = five in omega (arith, h, c.refused-in-Err-Memory.ensures.status))
