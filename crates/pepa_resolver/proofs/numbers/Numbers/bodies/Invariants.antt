use Rattle.std.proofs.Common.{◌≡◌, map, take}
use Rattle.pepa_reader.specs.Trees.{process_line_of}
use Rattle.pepa_resolver.specs.NamedTypes.{named_of}
use Rattle.pepa_resolver.specs.NumberSteps.{naming_by, outcome_by, bodies_by}
use Rattle.pepa_resolver.specs.FirstBad.{earliest_in, line_sites}
use Rattle.pepa_resolver.proofs.numbers.Numbers.bodies.Given as goal

abbrev pub invariant-loop-line : goal.invariant-loop-line
invariant-loop-line l = record {
  bodies : map named_of l.bodies ≡ bodies_by (naming_by l.self) (map process_line_of (take l.line-index l.lines));
  bad : l.bad ≡ earliest_in (outcome_by l.self) l.initial.bad (line_sites (map process_line_of (take l.line-index l.lines)));
}
