use Rattle.pepa_reader.specs.Grammar.{Named}
use Rattle.pepa_reader.proofs.words.word.Goals as goal

pub returns-in-Some : goal.returns-in-Some
returns-in-Some c = (Named c.in-Some.ensures.0, c.in-Some.ensures.1)
