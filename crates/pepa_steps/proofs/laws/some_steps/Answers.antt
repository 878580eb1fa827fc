use Rattle.pepa_steps.proofs.Existing as existing
use Rattle.pepa_steps.proofs.laws.some_steps.Goals as goal

pub returns-clause-some : goal.returns-clause-some
returns-clause-some c = λ m state term sound stands. existing.has_steps_or_fault m sound state term stands

pub returns-clause-not_both : goal.returns-clause-not_both
returns-clause-not_both c = existing.not_both

pub returns-clause-one_fault : goal.returns-clause-one_fault
returns-clause-one_fault c = existing.one_fault
