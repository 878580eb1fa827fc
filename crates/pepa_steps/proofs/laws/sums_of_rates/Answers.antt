use Rattle.pepa_steps.proofs.StateSums.{sums_of_rates}
use Rattle.pepa_steps.proofs.laws.sums_of_rates.Goals as goal

pub returns : goal.returns
returns c = sums_of_rates
