use Rattle.std.proofs.Common.{◌≡◌, map, take}
use Rattle.indexmap.specs.IndexMap.{keys}
use Rattle.pepa_model.specs.Expression.{definition_of}
use Rattle.pepa_resolver.specs.NamedTypes.{bodies_of}
use Rattle.pepa_checks.specs.Outline.{definitions_in}
use Rattle.pepa_checks.proofs.shapes.definitions.Given as goal

abbrev pub invariant-loop-number : goal.invariant-loop-number
invariant-loop-number l = map definition_of l.made ≡ definitions_in l.compounds (keys l.sets) (take l.number l.compounds) (bodies_of (take l.number l.bodies))
