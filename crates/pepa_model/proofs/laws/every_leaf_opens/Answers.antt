use Rattle.pepa_model.proofs.ModelLaws.{leaf_opens}
use Rattle.pepa_model.proofs.laws.every_leaf_opens.Goals as goal

pub returns : goal.returns
returns c = leaf_opens
