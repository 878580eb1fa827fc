use Rattle.pepa_rates.proofs.LowestTerms.{reduced-cross, reduced-positive, reduced-lowest}
use Rattle.pepa_rates.proofs.laws.lowest_terms.Goals as goal

pub returns-clause-same : goal.returns-clause-same
returns-clause-same c = reduced-cross

pub returns-clause-positive : goal.returns-clause-positive
returns-clause-positive c = reduced-positive

pub returns-clause-lowest : goal.returns-clause-lowest
returns-clause-lowest c = reduced-lowest
