use Rattle.std.proofs.Common.{sym, ◌∙◌}
use Rattle.probe_numbers.proofs.laws.one_numbering.Goals as goal

pub returns-clause-expressions : goal.returns-clause-expressions
returns-clause-expressions c = λ tokens names node a b is other. is.pattern_is ∙ sym other.pattern_is

pub returns-clause-counted : goal.returns-clause-counted
returns-clause-counted c = λ tokens names node a b is other. is.counted_is ∙ sym other.counted_is
