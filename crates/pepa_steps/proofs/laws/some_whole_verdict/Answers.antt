use Rattle.pepa_steps.proofs.Existing as existing
use Rattle.pepa_steps.proofs.laws.some_whole_verdict.Goals as goal

pub returns : goal.returns
returns c = λ m state term sound stands. existing.has_stop_or_choice m sound state term stands
