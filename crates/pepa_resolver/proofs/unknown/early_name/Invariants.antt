use Rattle.std.proofs.Common.{map, take}
use Rattle.pepa_reader.specs.Trees.{rate_line_of}
use Rattle.token_grammar.specs.Terminals.{name_at}
use Rattle.pepa_resolver.specs.Faults.{IsEarlyName}
use Rattle.pepa_resolver.specs.Finding.{FindsLeast}
use Rattle.pepa_resolver.proofs.unknown.early_name.Given as goal

abbrev pub invariant-loop-above : goal.invariant-loop-above
invariant-loop-above l = FindsLeast (IsEarlyName (name_at l.source.input.now l.source.tokens.now) (map rate_line_of (take l.above l.lines))) l.found
