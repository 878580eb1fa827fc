use Rattle.std.proofs.Common.{take}
use Rattle.pepa_resolver.specs.NamedTypes.{named_of, bodies_of}
use Rattle.pepa_resolver.specs.Finding.{FindsLeast}
use Rattle.pepa_checks.proofs.Sequentials.{SoFarAt}
use Rattle.pepa_checks.proofs.structure.first_not_sequential.Given as goal

abbrev pub invariant-loop-at : goal.invariant-loop-at
invariant-loop-at l =
    FindsLeast (SoFarAt (bodies_of l.bodies) (take l.at (bodies_of l.bodies)) (named_of l.system)) l.found
