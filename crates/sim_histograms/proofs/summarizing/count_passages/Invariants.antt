use Rattle.std.proofs.Common.{◌≡◌, length, take}
use Rattle.sim_histograms.specs.Summaries.{passage_lengths}
use Rattle.sim_histograms.proofs.summarizing.count_passages.Given as goal

abbrev pub invariant-loop-replication : goal.invariant-loop-replication
invariant-loop-replication l = l.count ≡ length (passage_lengths (take l.replication-index l.ran))
