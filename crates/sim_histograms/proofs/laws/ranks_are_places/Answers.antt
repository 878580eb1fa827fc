use Rattle.std.proofs.Common.{arith}
use Rattle.std.proofs.lemmas.List.Sorted.{length_permutation}
use Rattle.sim_histograms.proofs.RankFacts.{rank_at, rank_in_any_order, one_of_rank}
use Rattle.sim_histograms.proofs.laws.ranks_are_places.Goals as goal

pub returns-clause-place : goal.returns-clause-place
returns-clause-place c = λ xs sorted rank same ascending one within.
    rank_in_any_order xs sorted rank _ same
    (rank_at sorted rank ascending one (omega (arith, length_permutation xs sorted same)))

pub returns-clause-one : goal.returns-clause-one
returns-clause-one c = one_of_rank
