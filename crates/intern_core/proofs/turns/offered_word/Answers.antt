use Rattle.intern_core.proofs.Holding.{flat_word}
use Rattle.intern_core.proofs.turns.offered_word.Goals as goal

pub returns : goal.returns
returns c = flat_word c.args.offer.now c.args.stored c.requires
