use Rattle.std.proofs.Common.{take}
use Rattle.pepa_resolver.specs.NamesAnswers.{IsTau}
use Rattle.pepa_resolver.specs.Finding.{FindsIn}
use Rattle.pepa_resolver.proofs.sets.tau_among.Given as goal

abbrev pub invariant-loop-word : goal.invariant-loop-word
invariant-loop-word l = FindsIn (IsTau l.source.input.now l.source.tokens.now) (take l.word-index l.words) l.found
