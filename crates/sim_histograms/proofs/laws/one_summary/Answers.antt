use Rattle.sim_histograms.proofs.SummaryFacts.{same_summary}
use Rattle.sim_histograms.proofs.laws.one_summary.Goals as goal

pub returns : goal.returns
returns c = same_summary
