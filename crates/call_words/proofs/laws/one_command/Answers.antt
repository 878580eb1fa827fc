use Rattle.call_words.proofs.CommandLaws.{one_command}
use Rattle.call_words.proofs.laws.one_command.Goals as goal

pub returns : goal.returns
returns c = one_command
