use Rattle.probe_reader.proofs.ProbeLaws.{one_expression}
use Rattle.probe_reader.proofs.laws.one_expression.Goals as goal

pub returns : goal.returns
returns c = one_expression
