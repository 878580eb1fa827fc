use Rattle.sim_histograms.proofs.HistogramFacts.{histogram_more, counted_once}
use Rattle.sim_histograms.proofs.laws.passages_count_once.Goals as goal

pub returns-clause-more : goal.returns-clause-more
returns-clause-more c = histogram_more

pub returns-clause-once : goal.returns-clause-once
returns-clause-once c = counted_once
