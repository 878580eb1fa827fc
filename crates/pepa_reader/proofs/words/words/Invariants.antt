use Rattle.std.proofs.Common.{◌-◌, length}
use Rattle.token_grammar.specs.Cursors.{kinds_of}
use Rattle.pepa_reader.proofs.WordReading.{AreListed}
use Rattle.pepa_reader.proofs.words.words.Given as goal

abbrev pub invariant-loop-behind : goal.invariant-loop-behind
invariant-loop-behind l = AreListed (kinds_of l.text) l.at l.close l.set l.start

abbrev pub decreases-loop-behind : goal.decreases-loop-behind
decreases-loop-behind l = length (kinds_of l.text) - l.start
