use Rattle.pepa_resolver.specs.NamedTypes.{bodies_of}
use Rattle.pepa_checks.proofs.Bodies.{HasSystemsUpTo}
use Rattle.pepa_checks.proofs.compounds.systems.Given as goal

abbrev pub invariant-loop-at : goal.invariant-loop-at
invariant-loop-at l = HasSystemsUpTo (bodies_of l.bodies) l.systems l.at
