use Rattle.pepa_checks.proofs.SomeModels.{text_keeps}
use Rattle.pepa_checks.proofs.laws.model_of_short_text.Goals as goal

pub returns : goal.returns
returns c = text_keeps
