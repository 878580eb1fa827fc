use Rattle.probe_hearing.proofs.WordsHeard.{one_end, one_watched}
use Rattle.probe_hearing.proofs.laws.one_result.Goals as goal

pub returns-clause-heard : goal.returns-clause-heard
returns-clause-heard c = λ p h es next other sent more. one_end p es h next other sent more

pub returns-clause-watched : goal.returns-clause-watched
returns-clause-watched c = λ p h next other action signals counts out more. one_watched p h action signals counts next other out more
