use Rattle.std.proofs.Common.{◌≡◌, take}
use Rattle.sim_histograms.specs.Summaries.{passage_lengths}
use Rattle.sim_histograms.proofs.summarizing.sorted_lengths.Given as goal

abbrev pub invariant-loop-replication : goal.invariant-loop-replication
invariant-loop-replication l = l.lengths.items ≡ passage_lengths (take l.replication-index l.ran)
