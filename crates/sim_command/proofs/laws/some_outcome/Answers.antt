use Rattle.sim_command.proofs.SomeOutcome.{some_outcome}
use Rattle.sim_command.proofs.laws.some_outcome.Goals as goal

pub returns : goal.returns
returns c = some_outcome
