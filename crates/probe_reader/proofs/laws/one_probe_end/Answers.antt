use Rattle.probe_reader.proofs.ProbeLaws.{one_probe_end}
use Rattle.probe_reader.proofs.laws.one_probe_end.Goals as goal

pub returns : goal.returns
returns c = one_probe_end
