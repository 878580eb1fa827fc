-- The report of a run: a line for each number of its summary.
use Rattle.std.specs.Prelude.{ℕ, Option, None, Some, List, [], ◌∷◌, ◌++◌, length, slice_index, codes, decimal}
use Rattle.std.specs.List.{flat_map, range_with_len}
use Rattle.sim_outside.specs.TicksText.{ticks_text}
use Rattle.sim_histograms.specs.declared.summaries.Summary.{Summary}

-- a word and a count
unfoldable pub count_line : List ℕ → ℕ → List ℕ
count_line word count = word ++ codes " " ++ decimal count ++ 10 ∷ []

-- a time in whole time units and six digits, or a minus where there is none
abbrev pub time_text : Option ℕ → List ℕ
time_text None = codes "-"
time_text (Some ticks) = ticks_text ticks

-- a word and a time
unfoldable pub time_line : List ℕ → Option ℕ → List ℕ
time_line word time = word ++ codes " " ++ time_text time ++ 10 ∷ []

-- the number of a bin and its count
abbrev pub bin_line : ℕ → ℕ → List ℕ
bin_line number count = codes "bin " ++ decimal number ++ codes " " ++ decimal count ++ 10 ∷ []

-- how replications ended
abbrev pub endings_text : Summary → List ℕ
endings_text s =
    count_line (codes "runs") s.runs ++ count_line (codes "done") s.done
    ++ count_line (codes "deadlocked") s.deadlocked ++ count_line (codes "unfinished") s.unfinished

-- how long their passages are
abbrev pub times_text : Summary → List ℕ
times_text s =
    time_line (codes "mean") s.mean ++ time_line (codes "least") s.least ++ time_line (codes "median") s.median
    ++ time_line (codes "p90") s.p90 ++ time_line (codes "p99") s.p99 ++ time_line (codes "greatest") s.greatest

-- how many passages lie in each bin, the bins by their numbers from 0
abbrev pub bins_text : List ℕ → List ℕ
bins_text bins = flat_map (λ number. bin_line number (slice_index bins number)) (range_with_len 0 (length bins))

-- the whole report
abbrev pub report_text_of : Summary → List ℕ
report_text_of s =
    endings_text s ++ count_line (codes "passages") s.passages ++ times_text s ++ bins_text s.bins
    ++ count_line (codes "tail") s.tail
