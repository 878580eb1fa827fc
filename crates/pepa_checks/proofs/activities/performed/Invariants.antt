use Rattle.std.proofs.Common.{◌≡◌, ◌<◌, ℕ, false, length, take, Some, get_or}
use Rattle.std.specs.Prelude.{slice_get}
use Rattle.std.specs.List.{Contains}
use Rattle.node_orders.specs.Graphs.{SaysYes}
use Rattle.pepa_checks.specs.ActivityLists.{LeafChoices, AreSoFar}
use Rattle.pepa_checks.proofs.Performances.{AreSound}
use Rattle.pepa_checks.proofs.activities.performed.Given as goal

abbrev pub invariant-loop-constant : goal.invariant-loop-constant
invariant-loop-constant l = record {
  kept : AreSoFar l.lists;
  sizes : length l.lists.lists ≡ length l.leaves;
  sound : (choices : LeafChoices l.file.compounds.now l.file.sequential_order.now l.constants l.leaves) → AreSound l.file.compounds.now l.file.sequential_order.now l.constants l.leaves choices l.lists.made l.lists.lists;
  ready : (d : ℕ) → Contains (take l.constant-index l.file.sequential_order.now) d → slice_get l.file.compounds.now d ≡ Some false → SaysYes l.lists.made (get_or l.constants d 0);
}

abbrev pub invariant-loop-number : goal.invariant-loop-number
invariant-loop-number l = record {
  kept : AreSoFar l.lists;
  sizes : length l.lists.lists ≡ length l.leaves;
  sound : (choices : LeafChoices l.file.compounds.now l.file.sequential_order.now l.constants l.leaves) → AreSound l.file.compounds.now l.file.sequential_order.now l.constants l.leaves choices l.lists.made l.lists.lists;
  ready : (d : ℕ) → slice_get l.file.compounds.now d ≡ Some false → SaysYes l.lists.made (get_or l.constants d 0);
  made : (n : ℕ) → n < l.number → SaysYes l.lists.made n;
}
