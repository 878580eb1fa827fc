use Rattle.probe_words.specs.Twins.{condition_of}
use Rattle.probe_words.proofs.LayingCopies.{Copies}
use Rattle.probe_words.proofs.laying.guarded.Given as goal

abbrev pub invariant-loop-from : goal.invariant-loop-from
invariant-loop-from l = Copies (condition_of l.guard) l.from-items l.fn.part.last l.initial.work l.from-index l.work l.first l.last
