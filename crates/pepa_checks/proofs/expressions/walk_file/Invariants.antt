use Rattle.pepa_resolver.specs.NamedTypes.{named_of, bodies_of}
use Rattle.pepa_checks.specs.Candidates.{IsWalking}
use Rattle.pepa_checks.proofs.expressions.walk_file.Given as goal

abbrev pub invariant-loop-left : goal.invariant-loop-left
invariant-loop-left l = IsWalking l.file.compounds.now (bodies_of l.file.bodies.now) (named_of l.file.system.now) l.walk l.heads l.left

abbrev pub decreases-loop-left : goal.decreases-loop-left
decreases-loop-left l = l.left
