use Rattle.pepa_steps.proofs.Existing as existing
use Rattle.pepa_steps.proofs.laws.some_verdict.Goals as goal

pub returns : goal.returns
returns c = λ m state term sound stands. existing.has_verdict_or_no_fault m sound state term stands
