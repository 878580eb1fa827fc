use Rattle.std.proofs.Common.{nat_eq}
use Rattle.indexmap.specs.IndexMap.{get}
use Rattle.pepa_checks.specs.MixedLists.{activities}
use Rattle.pepa_checks.proofs.ActivityKinds.{HasKinds}
use Rattle.pepa_checks.proofs.mixed.first_mixed_of.Given as goal

abbrev pub invariant-loop-performed : goal.invariant-loop-performed
invariant-loop-performed l = HasKinds (activities l.list) l.performed-index (get nat_eq l.kinds)
