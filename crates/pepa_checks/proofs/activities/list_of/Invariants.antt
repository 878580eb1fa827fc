use Rattle.std.proofs.Common.{◌≡◌, ◌≤◌, length, take}
use Rattle.pepa_checks.specs.ActivityLists.{performed_in}
use Rattle.pepa_checks.proofs.activities.list_of.Given as goal

abbrev pub invariant-loop-operand : goal.invariant-loop-operand
invariant-loop-operand l = record {
  list : l.list.items ≡ performed_in l.constants l.lists (take l.operand-index l.operands);
  few : length l.list.items ≤ l.room;
}
