-- Histograms of passages by their lengths. A tick is 2^-32 of a time unit.
use Rattle.std.specs.Prelude.{ℕ, ◌+◌, ◌*◌, ◌^◌, ◌&&◌, nat_le, nat_lt, if◌then◌else◌, Bool, List, length, map, slice_index, count_by}
use Rattle.std.specs.List.{range_with_len}

-- the width of a bin in whole time units, how many passages lie in each bin, and how many are longer
pub record HistogramCounts : Type 0 where
  pub bin : ℕ
  pub each : List ℕ
  pub tail : ℕ

-- so many whole time units in ticks
abbrev pub ticks_in : ℕ → ℕ
ticks_in units = units * 2 ^ 32

-- a length in ticks lies in the bin of this number, from 0: it is at least this number times the width of a bin, and
-- less than the next number times this width
abbrev pub is_in_bin : ℕ → ℕ → ℕ → Bool
is_in_bin bin number ticks = nat_le (ticks_in (number * bin)) ticks && nat_lt ticks (ticks_in ((number + 1) * bin))

-- it is at least as great as the width of all bins together
abbrev pub is_in_tail : ℕ → ℕ → ℕ → Bool
is_in_tail bin bins ticks = nat_le (ticks_in (bins * bin)) ticks

-- the histogram of passages of these lengths, with so many bins of this width
abbrev pub histogram_of : ℕ → ℕ → List ℕ → HistogramCounts
histogram_of bin bins lengths = record {
  bin = bin;
  each = map (λ number. count_by (is_in_bin bin number) lengths) (range_with_len 0 bins);
  tail = count_by (is_in_tail bin bins) lengths;
}

-- the count, and one more where the test passes
abbrev pub one_more_if : Bool → ℕ → ℕ
one_more_if test count = if test then count + 1 else count

-- the histogram with one passage more, of this length
abbrev pub with_passage : HistogramCounts → ℕ → HistogramCounts
with_passage h ticks = record {
  bin = h.bin;
  each = map (λ number. one_more_if (is_in_bin h.bin number ticks) (slice_index h.each number))
      (range_with_len 0 (length h.each));
  tail = one_more_if (is_in_tail h.bin (length h.each) ticks) h.tail;
}
