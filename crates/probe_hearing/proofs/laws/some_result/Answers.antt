use Rattle.probe_hearing.proofs.TableLeads.{some_end, transition_heard}
use Rattle.probe_hearing.proofs.laws.some_result.Goals as goal

pub returns-clause-heard : goal.returns-clause-heard
returns-clause-heard c = λ p t h es q is leads. some_end p t is es h q leads

pub returns-clause-watched : goal.returns-clause-watched
returns-clause-watched c = λ p t h q is leads action signals counts. let (next, watched, ends) = transition_heard p t is counts h q action signals leads in (next, _, watched)
