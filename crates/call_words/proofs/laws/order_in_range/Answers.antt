use Rattle.call_words.proofs.CommandLaws.{order_in_range}
use Rattle.call_words.proofs.laws.order_in_range.Goals as goal

pub returns : goal.returns
returns c = order_in_range
