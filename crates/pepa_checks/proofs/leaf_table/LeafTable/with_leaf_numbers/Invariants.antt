use Rattle.std.proofs.Common.{◌≡◌, ◌≤◌, length, drop}
use Rattle.pepa_checks.specs.LeafTables.{renumbered}
use Rattle.pepa_checks.proofs.leaf_table.LeafTable.with_leaf_numbers.Given as goal

abbrev pub invariant-loop-left : goal.invariant-loop-left
invariant-loop-left l = (l.left ≤ length l.operands) × (l.list ≡ renumbered l.self.numbers.keys (drop l.left l.operands))

abbrev pub decreases-loop-left : goal.decreases-loop-left
decreases-loop-left l = l.left
