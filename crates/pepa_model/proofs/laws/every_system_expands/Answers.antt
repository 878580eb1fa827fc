use Rattle.pepa_model.proofs.ModelLaws.{system_expands, compound_expands}
use Rattle.pepa_model.proofs.laws.every_system_expands.Goals as goal

pub returns-clause-system : goal.returns-clause-system
returns-clause-system c = system_expands

pub returns-clause-compounds : goal.returns-clause-compounds
returns-clause-compounds c = compound_expands
