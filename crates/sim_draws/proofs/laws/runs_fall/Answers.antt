use Rattle.sim_draws.proofs.Runs.{run_length-le_length, run_falls, run_is_longest}
use Rattle.sim_draws.proofs.laws.runs_fall.Goals as goal

pub returns-clause-within : goal.returns-clause-within
returns-clause-within c = run_length-le_length

pub returns-clause-falls : goal.returns-clause-falls
returns-clause-falls c = run_falls

pub returns-clause-longest : goal.returns-clause-longest
returns-clause-longest c = run_is_longest
