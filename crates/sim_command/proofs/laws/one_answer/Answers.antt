use Rattle.sim_command.proofs.OneAnswer.{one_answer}
use Rattle.sim_command.proofs.laws.one_answer.Goals as goal

pub returns : goal.returns
returns c = one_answer
