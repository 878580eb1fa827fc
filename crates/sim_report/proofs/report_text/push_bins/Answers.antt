use Rattle.std.proofs.Common.{◌≡◌, ◌++◌, ◌∙◌, ℕ, List, ap, sym, append_assoc, get_or}
use Rattle.std.specs.List.{flat_map, range_with_len}
use Rattle.sim_report.specs.Report.{bin_line}
use Rattle.sim_report.proofs.ReportLemmas.{one_more}
use Rattle.sim_report.proofs.report_text.push_bins.Goals as goal

pub loop-number-preserved : goal.loop-number-preserved
loop-number-preserved c =
    let bins : List ℕ = c.args.bins.now in
    let line : ℕ → List ℕ = λ number. bin_line number (get_or bins number 0) in
    let before : List ℕ = c.args.to.now.items in
    c.in_ok-push_bin.ensures
    ∙ ap (λ (text : List ℕ). text ++ line c.loop-number.number) c.loop-number.invariant
    ∙ append_assoc before (flat_map line (range_with_len 0 c.loop-number.number)) (line c.loop-number.number)
    ∙ ap (λ (text : List ℕ). before ++ text) (sym (one_more line c.loop-number.number))
