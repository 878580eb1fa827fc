use Rattle.pepa_steps.proofs.Existing as existing
use Rattle.pepa_steps.proofs.laws.some_apparent_rate.Goals as goal

pub returns : goal.returns
returns c = λ m state term action sound stands. existing.has_rate_or_fault m sound state term stands action
