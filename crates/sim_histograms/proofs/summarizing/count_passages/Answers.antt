use Rattle.std.proofs.Common.{length, ap, arith}
use Rattle.std.proofs.lemmas.List.Folds.{length-flat_map-take}
use Rattle.sim_replication.specs.declared.ran.Ran.{Ran}
use Rattle.sim_histograms.proofs.summarizing.count_passages.Goals as goal

pub overflow_add-count : goal.overflow_add-count
overflow_add-count c =
    let within = length-flat_map-take (λ (r : Ran). r.passages) c.args.ran.now c.loop-replication.replication-index
    c.replication-item.result (omega arith) in
    omega (arith, within, ap (λ (r : Ran). length r.passages) c.replication-item.is)
