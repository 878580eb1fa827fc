use Rattle.pepa_resolver.proofs.NumberMeanings.{action_stands, constant_stands}
use Rattle.pepa_resolver.proofs.laws.numbers_stand_for_names.Goals as goal

pub returns-clause-actions : goal.returns-clause-actions
returns-clause-actions c = action_stands

pub returns-clause-constants : goal.returns-clause-constants
returns-clause-constants c = constant_stands
