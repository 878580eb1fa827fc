use Rattle.pepa_checks.proofs.OneModel.{one_text}
use Rattle.pepa_checks.proofs.laws.one_model.Goals as goal

pub returns : goal.returns
returns c = one_text
