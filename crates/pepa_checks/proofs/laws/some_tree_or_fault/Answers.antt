use Rattle.pepa_checks.proofs.SomeFiles.{some_file}
use Rattle.pepa_checks.proofs.laws.some_tree_or_fault.Goals as goal

pub returns : goal.returns
returns c = some_file
