use Rattle.pepa_steps.proofs.OneVerdict as verdicts
use Rattle.pepa_steps.proofs.laws.one_verdict.Goals as goal

pub returns-clause-one : goal.returns-clause-one
returns-clause-one c = verdicts.one_verdict

pub returns-clause-or_none : goal.returns-clause-or_none
returns-clause-or_none c = verdicts.verdict_or_none
