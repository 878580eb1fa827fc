use Rattle.probe_automata.proofs.OneTable.{tables_same}
use Rattle.probe_automata.proofs.laws.positions_have_one_table.Goals as goal

pub returns : goal.returns
returns c = λ p t u (ss, ls, one) (ts, ms, two). tables_same p t u ss ls ts ms one two
