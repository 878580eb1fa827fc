use Rattle.pepa_checks.proofs.OneModel.{one_model}
use Rattle.sim_command.proofs.OneOutcome.{one_model_fault, model_or_fault}
use Rattle.sim_command.proofs.laws.one_outcome.Goals as goal

pub returns-clause-model : goal.returns-clause-model
returns-clause-model c = one_model

pub returns-clause-fault : goal.returns-clause-fault
returns-clause-fault c = one_model_fault

pub returns-clause-apart : goal.returns-clause-apart
returns-clause-apart c = model_or_fault
