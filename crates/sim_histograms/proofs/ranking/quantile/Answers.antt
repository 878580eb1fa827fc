use Rattle.std.proofs.Common.{◌<◌, ◌-◌, length, sym, arith}
use Rattle.std.proofs.lemmas.Option.{slice_get-get_or}
use Rattle.sim_histograms.specs.Ranks.{rank_of}
use Rattle.sim_histograms.proofs.RankFacts.{rank_within}
use Rattle.sim_histograms.proofs.ranking.quantile.Goals as goal

pub returns : goal.returns
unfolding rank_of
returns c =
    let xs = c.args.sorted.now in
    let some : 0 < length xs = omega arith in
    let within = rank_within c.args.part c.args.whole (length xs) some c.requires.some c.requires.proper in
    sym (slice_get-get_or xs (rank_of c.args.part c.args.whole (length xs) - 1) 0
    (omega (arith, within.0, within.1)))
