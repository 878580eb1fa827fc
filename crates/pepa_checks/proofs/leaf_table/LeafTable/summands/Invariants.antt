use Rattle.std.proofs.Common.{◌≡◌, map, take}
use Rattle.pepa_checks.specs.LeafTables.{renumbered}
use Rattle.pepa_checks.proofs.leaf_table.LeafTable.summands.Given as goal

abbrev pub invariant-loop-operands : goal.invariant-loop-operands
invariant-loop-operands l = l.lists ≡ map (renumbered l.self.numbers.keys) (take l.operands-index l.operands-items)
