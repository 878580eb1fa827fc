use Rattle.std.proofs.Common.{length}
use Rattle.call_words.proofs.hyphens.+spells_one.Given as goal

abbrev pub decreases-spells_one : goal.decreases-spells_one
decreases-spells_one l = length l.names.now
