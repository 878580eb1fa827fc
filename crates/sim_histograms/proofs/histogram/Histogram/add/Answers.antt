use Rattle.std.proofs.Common.{◌∙◌, ap, arith}
use Rattle.sim_histograms.specs.Histograms.{HistogramCounts, with_passage}
use Rattle.sim_histograms.proofs.HistogramFacts.{bin_set, tail_set}
use Rattle.sim_histograms.proofs.histogram.Histogram.add.Goals as goal

pub returns-then-index-len : goal.returns-then-index-len
returns-then-index-len c =
    bin_set c.self.inside.bin c.from.result c.args.ticks c.self.inside.tail c.index_mut.result.now
    c.self.inside.each.items c.self.invariant c.from.ensures (omega arith) c.index_mut.ensures.value
    ∙ ap (λ (h : HistogramCounts). with_passage h c.args.ticks) c.self.view_is

pub returns-else-index-len : goal.returns-else-index-len
returns-else-index-len c =
    tail_set c.self.inside.bin c.from.result c.args.ticks c.self.inside.tail c.self.inside.each.items
    c.self.invariant c.from.ensures (omega arith)
    ∙ ap (λ (h : HistogramCounts). with_passage h c.args.ticks) c.self.view_is
