use Rattle.sim_draws.proofs.UsedNumbers.{used_decide_exponential, used_decide_below}
use Rattle.sim_draws.proofs.laws.used_numbers_decide.Goals as goal

pub returns-clause-exponential : goal.returns-clause-exponential
returns-clause-exponential c = used_decide_exponential

pub returns-clause-below : goal.returns-clause-below
returns-clause-below c = used_decide_below
