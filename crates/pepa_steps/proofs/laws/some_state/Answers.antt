use Rattle.pepa_steps.proofs.Existing as existing
use Rattle.pepa_steps.proofs.laws.some_state.Goals as goal

pub returns-clause-some : goal.returns-clause-some
returns-clause-some c = existing.some_state

pub returns-clause-of_model : goal.returns-clause-of_model
returns-clause-of_model c = existing.of_model
