use Rattle.std.proofs.Common.{◌≡◌, map, take}
use Rattle.pepa_checks.specs.declared.summand.Performed.{Performed}
use Rattle.pepa_checks.proofs.model_making.activities_of.Given as goal

abbrev pub invariant-loop-performed : goal.invariant-loop-performed
invariant-loop-performed l = l.activities ≡ map (λ (performed : Performed). performed.activity) (take l.performed-index l.list)
