use Rattle.pepa_rates.proofs.LowestTerms.{proper-reduced}
use Rattle.pepa_rates.proofs.laws.proper_is_reduced.Goals as goal

pub returns : goal.returns
returns c = proper-reduced
