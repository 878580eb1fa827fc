use Rattle.pepa_steps.proofs.Existing as existing
use Rattle.pepa_steps.proofs.laws.some_list.Goals as goal

pub returns : goal.returns
returns c = λ m state term sound stands. existing.has_list m sound state term stands
