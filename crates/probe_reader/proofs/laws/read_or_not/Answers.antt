use Rattle.probe_reader.proofs.ProbeLaws.{read_or_not}
use Rattle.probe_reader.proofs.laws.read_or_not.Goals as goal

pub returns : goal.returns
returns c = read_or_not
