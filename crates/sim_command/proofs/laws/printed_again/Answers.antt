use Rattle.sim_command.proofs.PrintedAgain.{printed_again}
use Rattle.sim_command.proofs.laws.printed_again.Goals as goal

pub returns : goal.returns
returns c = printed_again
