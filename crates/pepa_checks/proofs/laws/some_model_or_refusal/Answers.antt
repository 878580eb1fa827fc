use Rattle.pepa_checks.proofs.SomeModels.{some_model}
use Rattle.pepa_checks.proofs.laws.some_model_or_refusal.Goals as goal

pub returns : goal.returns
returns c = some_model
