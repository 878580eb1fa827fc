use Rattle.pepa_reader.proofs.FileLaws.{no_fault}
use Rattle.pepa_reader.proofs.laws.no_fault.Goals as goal

pub returns : goal.returns
returns c = λ file short h. no_fault file h.0 h.1.0 short.0 short.1 h.1.1
