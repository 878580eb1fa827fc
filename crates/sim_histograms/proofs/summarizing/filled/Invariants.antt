use Rattle.std.proofs.Common.{◌≡◌, take}
use Rattle.sim_histograms.specs.Histograms.{histogram_of}
use Rattle.sim_histograms.proofs.summarizing.filled.Given as goal

abbrev pub invariant-loop-ticks : goal.invariant-loop-ticks
invariant-loop-ticks l = l.histogram ≡ histogram_of l.order.bin l.order.bins (take l.ticks-index l.lengths)
