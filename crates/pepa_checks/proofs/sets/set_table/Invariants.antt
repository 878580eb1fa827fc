use Rattle.std.proofs.Common.{◌≡◌, [], map, flat_map, take}
use Rattle.indexmap.specs.IndexMap.{keys}
use Rattle.pepa_resolver.specs.NamedTypes.{named_of}
use Rattle.pepa_resolver.specs.NumberSteps.{with_names}
use Rattle.pepa_checks.specs.Outline.{sets_written}
use Rattle.pepa_checks.proofs.sets.set_table.Given as goal

abbrev pub invariant-loop-body : goal.invariant-loop-body
invariant-loop-body l = keys l.sets ≡ with_names [] (flat_map sets_written (map named_of (take l.body-index l.bodies)))
