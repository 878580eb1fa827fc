use Rattle.call_words.proofs.WordOutcomes.{command_or_none}
use Rattle.call_words.proofs.laws.command_or_none.Goals as goal

pub returns : goal.returns
returns c = command_or_none
