use Rattle.pepa_reader.proofs.FileLaws.{one_fault}
use Rattle.pepa_reader.proofs.laws.one_fault.Goals as goal

pub returns : goal.returns
returns c = one_fault
