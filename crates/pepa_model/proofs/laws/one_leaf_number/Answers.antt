use Rattle.pepa_model.proofs.DistinctLeaves.{one_number, same_expression-Decides}
use Rattle.pepa_model.proofs.laws.one_leaf_number.Goals as goal

pub returns-clause-number : goal.returns-clause-number
returns-clause-number c = one_number

pub returns-clause-test : goal.returns-clause-test
returns-clause-test c = same_expression-Decides
