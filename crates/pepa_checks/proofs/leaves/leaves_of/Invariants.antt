use Rattle.std.proofs.Common.{◌≤◌, length}
use Rattle.pepa_resolver.specs.NamedTypes.{named_of, bodies_of}
use Rattle.pepa_checks.proofs.LeafLoops.{AddsHeads, AddsCandidates}
use Rattle.pepa_checks.proofs.leaves.leaves_of.Given as goal

abbrev pub invariant-loop-head : goal.invariant-loop-head
invariant-loop-head l = AddsHeads l.file.compounds.now (bodies_of l.file.bodies.now) (named_of l.file.system.now) l.table l.heads l.walk.candidates

abbrev pub decreases-loop-head : goal.decreases-loop-head
decreases-loop-head l = length l.heads

abbrev pub invariant-loop-candidate : goal.invariant-loop-candidate
invariant-loop-candidate l = AddsCandidates l.file.compounds.now (bodies_of l.file.bodies.now) (named_of l.file.system.now) l.table l.candidates × (length l.table.numbers.keys ≤ 65535)

abbrev pub decreases-loop-candidate : goal.decreases-loop-candidate
decreases-loop-candidate l = length l.candidates
