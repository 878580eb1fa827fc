use Rattle.probe_words.proofs.PositionLists.{Labels}
use Rattle.probe_words.proofs.numbering.labelled.Given as goal

abbrev pub invariant-loop-label : goal.invariant-loop-label
invariant-loop-label l = Labels l.fn.places l.labels l.label-index l.places l.each
