use Rattle.pepa_reader.proofs.ItemLaws.{one_file}
use Rattle.pepa_reader.proofs.laws.one_file.Goals as goal

pub returns : goal.returns
returns c = one_file
