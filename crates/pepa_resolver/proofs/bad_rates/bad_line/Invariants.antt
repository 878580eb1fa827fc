use Rattle.std.proofs.Common.{map, take}
use Rattle.pepa_reader.specs.Trees.{rate_line_of}
use Rattle.pepa_resolver.specs.Values.{outcome_of}
use Rattle.pepa_resolver.specs.FirstBad.{IsEarliest, BadLine}
use Rattle.pepa_resolver.proofs.bad_rates.bad_line.Given as goal

abbrev pub invariant-loop-i : goal.invariant-loop-i
invariant-loop-i l = IsEarliest (BadLine (map rate_line_of (take l.i l.lines)) (map outcome_of l.values)) l.bad
