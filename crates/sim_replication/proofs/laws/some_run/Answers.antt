use Rattle.sim_replication.proofs.SomeRun as runs
use Rattle.sim_replication.proofs.laws.some_run.Goals as goal

pub returns : goal.returns
returns c = λ m order at sound. runs.some_run m sound order at
