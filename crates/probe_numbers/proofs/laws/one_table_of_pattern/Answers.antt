use Rattle.probe_numbers.proofs.TablesOfPatterns.{one_table}
use Rattle.probe_numbers.proofs.laws.one_table_of_pattern.Goals as goal

pub returns : goal.returns
returns c = one_table
