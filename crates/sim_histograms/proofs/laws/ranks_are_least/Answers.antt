use Rattle.sim_histograms.proofs.RankFacts.{rank_is}
use Rattle.sim_histograms.proofs.laws.ranks_are_least.Goals as goal

pub returns : goal.returns
returns c = rank_is
