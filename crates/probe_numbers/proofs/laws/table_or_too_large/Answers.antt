use Rattle.probe_numbers.proofs.TablesOfPatterns.{not_too_large}
use Rattle.probe_numbers.proofs.laws.table_or_too_large.Goals as goal

pub returns : goal.returns
returns c = not_too_large
