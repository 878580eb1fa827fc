use Rattle.std.proofs.Common.{take}
use Rattle.indexmap.specs.IndexMap.{keys}
use Rattle.token_grammar.specs.Terminals.{name_at}
use Rattle.pepa_resolver.specs.Finding.{FindsLeast, StandsInSome, IsUnlistedIn}
use Rattle.pepa_resolver.proofs.FileLines.{bodies_of}
use Rattle.pepa_resolver.proofs.unknown.unlisted_in_processes.Given as goal

abbrev pub invariant-loop-line : goal.invariant-loop-line
invariant-loop-line l = FindsLeast (StandsInSome (IsUnlistedIn (name_at l.source.input.now l.source.tokens.now) (keys l.constants) (keys l.rates)) (bodies_of (take l.line-index l.line-items))) l.found
