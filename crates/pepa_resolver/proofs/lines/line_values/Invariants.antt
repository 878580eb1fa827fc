use Rattle.std.proofs.Common.{map, take}
use Rattle.pepa_reader.specs.Trees.{rate_line_of}
use Rattle.token_grammar.specs.Terminals.{name_at}
use Rattle.pepa_resolver.specs.Outcomes.{AreOutcomes}
use Rattle.pepa_resolver.specs.Values.{outcome_of}
use Rattle.pepa_resolver.proofs.lines.line_values.Given as goal

abbrev pub invariant-loop-line : goal.invariant-loop-line
invariant-loop-line l = AreOutcomes l.source.tokens.now (name_at l.source.input.now l.source.tokens.now) (map rate_line_of (take l.line-index l.lines)) (map outcome_of l.values)
