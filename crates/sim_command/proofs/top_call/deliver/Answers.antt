use Rattle.std.proofs.Common.{Ok, Err, refl}
use Rattle.sim_command.proofs.top_call.deliver.Goals as goal

pub returns-in-Ok-clause-out_calls : goal.returns-in-Ok-clause-out_calls
returns-in-Ok-clause-out_calls g c = (Ok tt, rw c.as_slice.ensures at c.in-Ok.ensures.writes, refl)

pub returns-clause-out_calls : goal.returns-clause-out_calls
returns-clause-out_calls g c = (Err (record {}), rw c.as_slice.ensures at c.in-Err.ensures.writes, c.refused.ensures.status)
