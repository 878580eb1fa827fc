use Rattle.pepa_model.proofs.OneList.{one_list}
use Rattle.pepa_model.proofs.laws.one_transition_list.Goals as goal

pub returns : goal.returns
returns c = one_list
