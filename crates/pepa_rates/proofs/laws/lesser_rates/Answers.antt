use Rattle.pepa_rates.proofs.Lesser.{least-comm, least-assoc, same-rate}
use Rattle.pepa_rates.proofs.laws.lesser_rates.Goals as goal

pub returns-clause-commute : goal.returns-clause-commute
returns-clause-commute c = least-comm

pub returns-clause-associate : goal.returns-clause-associate
returns-clause-associate c = least-assoc

pub returns-clause-one : goal.returns-clause-one
returns-clause-one c = same-rate
