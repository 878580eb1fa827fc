use Rattle.std.proofs.Common.{◌≡◌, ◌∙◌, refl, ap, sym, subst, arith, List, ℕ, IsPermutation}
use Rattle.std.specs.List.Sorted.{IsNonDecreasing}
use Rattle.std.proofs.lemmas.List.Sorted.{length_permutation}
use Rattle.sim_histograms.specs.Histograms.{HistogramCounts, histogram_of}
use Rattle.sim_histograms.specs.Summaries.{passage_lengths}
use Rattle.sim_histograms.proofs.HistogramFacts.{histogram_in_any_order}
use Rattle.sim_histograms.proofs.SummaryFacts.{few_passages, greatest_found, least_found, mean_in_any_order, quantile_found, times_there}
use Rattle.sim_histograms.proofs.summarizing.summary.Goals as goal

pub sorted_lengths-requires : goal.sorted_lengths-requires
sorted_lengths-requires c = few_passages c.args.order.now c.args.ran.now c.requires.range c.requires.runs
    c.requires.passages

pub returns-clause-summary : goal.returns-clause-summary
returns-clause-summary c =
    let order = c.args.order.now in
    let xs : List ℕ = passage_lengths c.args.ran.now in
    let sorted : List ℕ = c.as_slice-lengths.result.now in
    let shown : sorted ≡ c.in_ok-sorted.sorted.items = c.as_slice-lengths.ensures.value in
    let same : IsPermutation xs sorted = subst (IsPermutation xs) (sym shown) c.in_ok-sorted.ensures.same in
    let ascending : IsNonDecreasing sorted = subst IsNonDecreasing (sym shown) c.in_ok-sorted.ensures.ascending in
    let histogram : c.in_ok-histogram.histogram ≡ histogram_of order.bin order.bins xs = c.in_ok-histogram.ensures
    ∙ histogram_in_any_order order.bin order.bins xs sorted same in
    record {
      runs = refl;
      done = c.count_ended.ensures;
      deadlocked = c.count_ended-2.ensures;
      unfinished = c.count_ended-3.ensures;
      passages = length_permutation xs sorted same;
      mean = c.mean.ensures ∙ mean_in_any_order xs sorted same;
      least = least_found xs sorted c.copied.result same ascending (c.copied.ensures ∙ c.first.ensures.value);
      median = quantile_found xs sorted 1 2 c.quantile.result (omega arith) (omega arith) same ascending
          c.quantile.ensures;
      p90 = quantile_found xs sorted 9 10 c.quantile-2.result (omega arith) (omega arith) same ascending
          c.quantile-2.ensures;
      p99 = quantile_found xs sorted 99 100 c.quantile-3.result (omega arith) (omega arith) same ascending
          c.quantile-3.ensures;
      greatest = greatest_found xs sorted c.copied-2.result same ascending
          (c.copied-2.ensures ∙ c.last.ensures.value);
      bins = c.into_counts.ensures ∙ ap (λ (h : HistogramCounts). h.each) histogram;
      tail = c.tail-tail.ensures ∙ ap (λ (h : HistogramCounts). h.tail) histogram;
    }

pub returns-clause-times : goal.returns-clause-times
returns-clause-times c = times_there c.args.order.now c.args.ran.now _ (returns-clause-summary c)
