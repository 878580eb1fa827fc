use Rattle.sim_command.proofs.GivenCommands.{own_answer}
use Rattle.sim_command.proofs.laws.own_answers.Goals as goal

pub returns : goal.returns
returns c = own_answer
