use Rattle.std.proofs.Common.{◌≡◌, rules, sym, ap, ◌∙◌, replicate, List, ℕ}
use Rattle.sim_histograms.specs.Histograms.{HistogramCounts}
use Rattle.sim_histograms.proofs.HistogramFacts.{empty_bins}
use Rattle.sim_histograms.proofs.histogram.Histogram.make.Goals as goal

pub returns : goal.returns
returns c =
    let zeros : c.in_ok-vec.field-0.items ≡ replicate c.args.bins 0 = search rules in
    let shown : List ℕ → HistogramCounts = λ each. record { bin = c.args.bin; each = each; tail = 0 } in
    ap shown zeros ∙ sym (empty_bins c.args.bin c.args.bins)
