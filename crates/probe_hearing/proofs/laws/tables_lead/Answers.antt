use Rattle.probe_hearing.proofs.TableLeads.{at_start, answers_after, leads_inside}
use Rattle.probe_hearing.proofs.laws.tables_lead.Goals as goal

pub returns-clause-start : goal.returns-clause-start
returns-clause-start c = at_start

pub returns-clause-step : goal.returns-clause-step
returns-clause-step c = answers_after

pub returns-clause-inside : goal.returns-clause-inside
returns-clause-inside c = leads_inside
