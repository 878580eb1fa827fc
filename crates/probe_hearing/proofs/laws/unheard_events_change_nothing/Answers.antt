use Rattle.std.proofs.Common.{inr}
use Rattle.probe_hearing.proofs.WordsHeard.{out_heard, unheard_next, without_first, with_first}
use Rattle.probe_hearing.proofs.laws.unheard_events_change_nothing.Goals as goal

pub returns-clause-events : goal.returns-clause-events
returns-clause-events c = λ p h next e n. (λ hear. unheard_next p h e next hear n, λ is. inr (n, is))

pub returns-clause-labels : goal.returns-clause-labels
returns-clause-labels c = λ p h e l n out. n (out_heard p h e l out)

pub returns-clause-rest : goal.returns-clause-rest
returns-clause-rest c = λ p h es next e sent n. (without_first p h es next e sent n, with_first p h es next e sent n)
