use Rattle.pepa_model.proofs.ModelLaws.{has_activities}
use Rattle.pepa_model.proofs.laws.every_target_is_a_leaf.Goals as goal

pub returns : goal.returns
returns c = has_activities
