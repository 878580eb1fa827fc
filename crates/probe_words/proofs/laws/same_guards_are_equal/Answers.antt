use Rattle.probe_words.proofs.GuardsAlike.{same_equal, equal_same}
use Rattle.probe_words.proofs.laws.same_guards_are_equal.Goals as goal

pub returns : goal.returns
returns c = λ g h. (same_equal g h, equal_same g h)
