use Rattle.pepa_steps.proofs.OneState.{one_list}
use Rattle.pepa_steps.proofs.laws.one_list.Goals as goal

pub returns : goal.returns
returns c = one_list
