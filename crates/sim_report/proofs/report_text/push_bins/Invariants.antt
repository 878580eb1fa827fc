use Rattle.std.proofs.Common.{◌≡◌, ◌++◌, get_or}
use Rattle.std.specs.List.{flat_map, range_with_len}
use Rattle.sim_report.specs.Report.{bin_line}
use Rattle.sim_report.proofs.report_text.push_bins.Given as goal

abbrev pub invariant-loop-number : goal.invariant-loop-number
invariant-loop-number l = l.to.items
    ≡ l.fn.to.items ++ flat_map (λ number. bin_line number (get_or l.bins number 0)) (range_with_len 0 l.number)
