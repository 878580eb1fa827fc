use Rattle.sim_workers.proofs.OneOutcome as outcomes
use Rattle.sim_workers.proofs.laws.one_outcome.Goals as goal

pub returns : goal.returns
returns c = λ m order a b h k. outcomes.one_outcome m order a b h k
