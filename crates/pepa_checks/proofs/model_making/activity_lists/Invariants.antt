use Rattle.std.proofs.Common.{◌≡◌, map, take}
use Rattle.pepa_checks.specs.declared.summand.Performed.{Performed}
use Rattle.pepa_checks.proofs.model_making.activity_lists.Given as goal

abbrev pub invariant-loop-list : goal.invariant-loop-list
invariant-loop-list l = l.made ≡ map (map (λ (performed : Performed). performed.activity)) (take l.list-index l.lists)
