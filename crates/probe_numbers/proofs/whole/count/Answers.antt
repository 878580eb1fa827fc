use Rattle.std.proofs.Common.{◌∙◌}
use Rattle.probe_numbers.proofs.WholeNumbers.{count_is}
use Rattle.probe_numbers.proofs.whole.count.Goals as goal

pub returns : goal.returns
returns c = c.unwrap_or.ensures ∙ count_is c.args.tokens.now c.args.at c.args.limit c.count_at.result c.requires c.count_at.ensures
