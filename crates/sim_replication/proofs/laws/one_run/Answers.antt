use Rattle.sim_replication.proofs.OneRun as runs
use Rattle.sim_replication.proofs.laws.one_run.Goals as goal

pub returns-clause-ends : goal.returns-clause-ends
returns-clause-ends c m order at xs ys q r a b = runs.one_run m order at xs ys q r a b

pub returns-clause-stops : goal.returns-clause-stops
returns-clause-stops c m order at xs ys q r s t = runs.one_stopped_run m order at xs ys q r s t

pub returns-clause-apart : goal.returns-clause-apart
returns-clause-apart c m order at xs ys q r a s = runs.run_or_stop m order at xs ys q r a s
