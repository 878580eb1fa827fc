use Rattle.sim_command.proofs.GivenCommands.{given_in_range}
use Rattle.sim_command.proofs.laws.commands_in_range.Goals as goal

pub returns : goal.returns
returns c = given_in_range
