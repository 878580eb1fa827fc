use Rattle.pepa_reader.proofs.FileLaws.{one_index}
use Rattle.pepa_reader.proofs.laws.one_index.Goals as goal

pub returns : goal.returns
returns c = λ kinds i j h k. one_index kinds i j h.0 k.0 h.1 k.1
