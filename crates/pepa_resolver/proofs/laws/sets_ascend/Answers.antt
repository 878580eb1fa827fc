use Rattle.pepa_resolver.proofs.Ascending.{set_ascends, increasing_from, set_has, set_no_more}
use Rattle.pepa_resolver.specs.Named.{ascending_set}
use Rattle.pepa_resolver.proofs.laws.sets_ascend.Goals as goal

pub returns-clause-ascending : goal.returns-clause-ascending
returns-clause-ascending c = λ numbers. increasing_from (ascending_set numbers) (set_ascends numbers)

pub returns-clause-same : goal.returns-clause-same
returns-clause-same c = λ numbers n. (set_no_more numbers n, set_has numbers n)
