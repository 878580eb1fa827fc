use Rattle.std.proofs.Common.{arith}
use Rattle.sim_workers.proofs.FewPassages.{each_few}
use Rattle.sim_workers.proofs.laws.can_be_summed_up.Goals as goal

pub returns-clause-runs : goal.returns-clause-runs
returns-clause-runs c m order rans h = let e = h.0 in omega (arith, e)

pub returns-clause-passages : goal.returns-clause-passages
returns-clause-passages c m order rans h = each_few m order rans h.1
