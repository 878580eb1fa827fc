use Rattle.std.proofs.Common.{[]}
use Rattle.probe_automata.proofs.Hears.{all_answered, start_state}
use Rattle.probe_automata.proofs.laws.tables_answer_as_words.Goals as goal

pub returns : goal.returns
returns c = λ r p t proper are (sets, leads, is) es. all_answered r proper p are t sets leads is es [] 0 (start_state r proper p are t sets leads is)
