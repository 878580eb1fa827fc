use Rattle.pepa_rates.proofs.Sums.{sum_of-positive, sum_of-comm, sum_of-assoc}
use Rattle.pepa_rates.proofs.laws.sums.Goals as goal

pub returns-clause-positive : goal.returns-clause-positive
returns-clause-positive c = sum_of-positive

pub returns-clause-commute : goal.returns-clause-commute
returns-clause-commute c = sum_of-comm

pub returns-clause-associate : goal.returns-clause-associate
returns-clause-associate c = sum_of-assoc
