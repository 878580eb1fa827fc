use Rattle.std.proofs.Common.{◌^◌}
use Rattle.probe_attach.proofs.SystemLeaves.{load, CountsSoFar}
use Rattle.probe_attach.proofs.system_size.system_leaves.Given as goal

abbrev pub invariant-loop-constant : goal.invariant-loop-constant
invariant-loop-constant l = CountsSoFar l.model (2 ^ 21) l.count l.constants

abbrev pub decreases-loop-constant : goal.decreases-loop-constant
decreases-loop-constant l = load l.model.bodies (2 ^ 21) l.constants
