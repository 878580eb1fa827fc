use Rattle.std.proofs.Common.{◌≡◌, ◌++◌, take}
use Rattle.std.specs.List.{flat_map}
use Rattle.pepa_text.specs.SetText.{further_text}
use Rattle.pepa_text.proofs.sets.push_set.Given as goal

abbrev pub invariant-loop-action : goal.invariant-loop-action
invariant-loop-action l = l.to.items ≡ l.initial.to.items ++ flat_map (further_text l.model) (take l.action-index l.others)
