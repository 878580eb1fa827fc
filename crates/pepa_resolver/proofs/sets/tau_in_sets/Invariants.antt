use Rattle.std.proofs.Common.{take}
use Rattle.std.specs.List.{Contains}
use Rattle.pepa_resolver.specs.Parts.{set_words_in}
use Rattle.pepa_resolver.specs.NamesAnswers.{IsTau}
use Rattle.pepa_resolver.specs.Finding.{FindsLeast, StandsInSome}
use Rattle.pepa_resolver.proofs.FileLines.{bodies_of}
use Rattle.pepa_resolver.proofs.sets.tau_in_sets.Given as goal

abbrev pub invariant-loop-line : goal.invariant-loop-line
invariant-loop-line l = FindsLeast (StandsInSome (λ process i. Contains (set_words_in process) i × IsTau l.source.input.now l.source.tokens.now i) (bodies_of (take l.line-index l.line-items))) l.found
