use Rattle.pepa_resolver.specs.NamedTypes.{bodies_of}
use Rattle.pepa_checks.proofs.Bodies.{HasUsersUpTo}
use Rattle.pepa_checks.proofs.compounds.users.Given as goal

abbrev pub invariant-loop-user : goal.invariant-loop-user
invariant-loop-user l = HasUsersUpTo (bodies_of l.bodies) l.users.items l.user
