use Rattle.sim_histograms.proofs.RankFacts.{quantile_of_rank}
use Rattle.sim_histograms.proofs.laws.quantiles_are_least.Goals as goal

pub returns : goal.returns
returns c = quantile_of_rank
