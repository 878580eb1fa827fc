use Rattle.std.proofs.Common.{subst}
use Rattle.sim_draws.specs.Streams.{StreamPlace, stream_number}
use Rattle.sim_replication.specs.Runs.{BeginsRun}
use Rattle.sim_replication.proofs.replication.replicate.Goals as goal

pub replicate_over-requires-clause-wanted : goal.replicate_over-requires-clause-wanted
replicate_over-requires-clause-wanted g c taken last begins =
    let P : StreamPlace → Type 0 = λ s. BeginsRun (g.S.Space.model c.args.space.now) c.args.order.now (stream_number s.key s.stream) taken last in
    c.requires.wanted taken last (subst P c.begin-stream.ensures begins)
