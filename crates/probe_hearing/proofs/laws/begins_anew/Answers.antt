use Rattle.probe_words.specs.WordKinds.{WordPrefix, LabelledPrefix}
use Rattle.probe_hearing.proofs.WordsHeard.{anew}
use Rattle.probe_hearing.proofs.laws.begins_anew.Goals as goal

pub returns-clause-heard : goal.returns-clause-heard
returns-clause-heard c = λ p h g e. anew p WordPrefix h g e

pub returns-clause-sent : goal.returns-clause-sent
returns-clause-sent c = λ p h g e l. anew p (LabelledPrefix l) h g e
