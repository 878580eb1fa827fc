use Rattle.std.proofs.Common.{take}
use Rattle.indexmap.specs.IndexMap.{keys}
use Rattle.token_grammar.specs.Terminals.{name_at}
use Rattle.pepa_resolver.proofs.Repeated.{SoFar}
use Rattle.pepa_resolver.proofs.tables.line_names.Given as goal

abbrev pub invariant-loop-at : goal.invariant-loop-at
invariant-loop-at l = SoFar (name_at l.source.input.now l.source.tokens.now) (take l.at-index l.ats) (keys l.names) l.repeated
