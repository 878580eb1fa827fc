use Rattle.std.proofs.Common.{◌≡◌, ◌≤◌, ◌++◌, drop}
use Rattle.pepa_checks.specs.LeavesAnswers.{numbers_from}
use Rattle.pepa_checks.proofs.leaves.constant_leaves.Given as goal

abbrev pub invariant-loop-compound : goal.invariant-loop-compound
invariant-loop-compound l = (l.next ≤ l.compound-index) × (l.numbers ++ numbers_from l.next (drop l.compound-index l.compounds) ≡ numbers_from 0 l.compounds)
