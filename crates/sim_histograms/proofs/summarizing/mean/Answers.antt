use Rattle.std.proofs.Common.{◌^◌, ◌/◌, ◌<◌, length, refl, arith}
use Rattle.std.proofs.lemmas.List.{get_or_default}
use Rattle.sim_histograms.proofs.SummaryFacts.{mean_fits}
use Rattle.sim_histograms.proofs.summarizing.mean.Goals as goal

pub overflow_cast-result : goal.overflow_cast-result
overflow_cast-result c =
    let xs = c.args.lengths.now in
    let fits : c.total.result / length xs < 2 ^ 64 =
    mean_fits xs (length xs) c.total.result
    (λ k d short. rw (get_or_default xs k d 0 short) (let small = c.type_inv.lengths k in omega arith)) refl
    (omega arith) c.total.ensures in
    omega (arith, fits)
