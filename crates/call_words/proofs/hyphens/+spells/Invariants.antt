use Rattle.std.proofs.Common.{length}
use Rattle.call_words.proofs.hyphens.+spells.Given as goal

abbrev pub decreases-spells : goal.decreases-spells
decreases-spells l = length l.name.now
