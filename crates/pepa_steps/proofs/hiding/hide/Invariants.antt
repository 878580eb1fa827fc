use Rattle.std.proofs.Common.{◌≡◌, ◌++◌, map, take, drop}
use Rattle.pepa_steps.specs.Hidings.{hidden_entry}
use Rattle.pepa_steps.proofs.hiding.hide.Given as goal

abbrev pub invariant-loop-entry : goal.invariant-loop-entry
invariant-loop-entry l = l.entry-items ≡ map (hidden_entry l.types) (take l.entry-index l.initial.entry-items) ++ drop l.entry-index l.initial.entry-items
