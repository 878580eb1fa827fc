use Rattle.pepa_rates.proofs.Shares.{share-comm, share-whole}
use Rattle.pepa_rates.proofs.laws.shares.Goals as goal

pub returns-clause-commute : goal.returns-clause-commute
returns-clause-commute c = share-comm

pub returns-clause-whole : goal.returns-clause-whole
returns-clause-whole c = share-whole
