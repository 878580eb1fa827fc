use Rattle.pepa_lexer.proofs.OneAnswer.{one_fault}
use Rattle.pepa_lexer.proofs.laws.one_fault.Goals as goal

pub returns : goal.returns
returns c = one_fault
