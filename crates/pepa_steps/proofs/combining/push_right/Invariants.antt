use Rattle.std.proofs.Common.{map, take}
use Rattle.pepa_steps.specs.Moves.{carry, outside_set}
use Rattle.pepa_steps.specs.Combined.{AddsEntries, numbered}
use Rattle.pepa_steps.specs.declared.entries.Origin.TheVariants.{Right}
use Rattle.pepa_steps.proofs.combining.push_right.Given as goal

abbrev pub invariant-loop-index : goal.invariant-loop-index
invariant-loop-index l =
    AddsEntries l.initial.derived.entries.items l.derived.entries.items l.initial.derived.origins.items l.derived.origins.items
    (map (carry Right) (outside_set l.types (numbered 0 (take l.index l.theirs))))
