use Rattle.pepa_lexer.proofs.TextsInOrder.{texts_in_order}
use Rattle.pepa_lexer.proofs.laws.texts_in_order.Goals as goal

pub returns : goal.returns
returns c = texts_in_order
