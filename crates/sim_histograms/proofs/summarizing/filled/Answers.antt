use Rattle.std.proofs.Common.{◌≡◌, ◌∙◌, ap, sym, arith, take, length, length-take, List, ℕ, get_or}
use Rattle.std.proofs.lemmas.List.{take_more}
use Rattle.sim_histograms.specs.Histograms.{HistogramCounts, histogram_of, with_passage}
use Rattle.sim_histograms.proofs.HistogramFacts.{counted_once, histogram_more, all_counts}
use Rattle.sim_histograms.proofs.summarizing.filled.Goals as goal

pub add-requires : goal.add-requires
add-requires c =
    let order = c.args.order.now in
    let front : List ℕ = take c.loop-ticks.ticks-index c.args.lengths.now in
    let once : all_counts c.loop-ticks.histogram ≡ length front = ap all_counts c.loop-ticks.invariant
    ∙ counted_once order.bin order.bins front c.requires.bin in
    omega (arith, once, length-take c.loop-ticks.ticks-index c.args.lengths.now)

pub loop-ticks-preserved : goal.loop-ticks-preserved
loop-ticks-preserved c =
    let order = c.args.order.now in
    let xs : List ℕ = c.args.lengths.now in
    let i : ℕ = c.loop-ticks.ticks-index in
    c.add.ensures
    ∙ ap (λ (h : HistogramCounts). with_passage h (get_or xs i 0)) c.loop-ticks.invariant
    ∙ sym (histogram_more order.bin order.bins (get_or xs i 0) (take i xs))
    ∙ ap (λ (ys : List ℕ). histogram_of order.bin order.bins ys) (sym (take_more xs i 0 c.loop-ticks-test.true))
