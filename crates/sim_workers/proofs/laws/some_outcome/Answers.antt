use Rattle.sim_workers.proofs.SomeOutcome as outcomes
use Rattle.sim_workers.proofs.laws.some_outcome.Goals as goal

pub returns : goal.returns
returns c = λ m order sound. outcomes.some_outcome m sound order
