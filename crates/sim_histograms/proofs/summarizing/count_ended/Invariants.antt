use Rattle.std.proofs.Common.{◌≡◌, take}
use Rattle.sim_histograms.specs.Summaries.{count_ended}
use Rattle.sim_histograms.proofs.summarizing.count_ended.Given as goal

abbrev pub invariant-loop-replication : goal.invariant-loop-replication
invariant-loop-replication l = l.count ≡ count_ended l.ending (take l.replication-index l.ran)
