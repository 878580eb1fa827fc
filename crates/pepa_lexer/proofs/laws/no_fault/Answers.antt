use Rattle.pepa_lexer.proofs.OneAnswer.{no_fault}
use Rattle.pepa_lexer.proofs.laws.no_fault.Goals as goal

pub returns : goal.returns
returns c = λ input list are h. no_fault input list h.0 are h.1
