-- So many passes were made, and pass 0 counts them.
use Rattle.std.proofs.Common.{◌≡◌, ◌+◌, ◌≤◌, length}
use Rattle.chain_rule.specs.Rule.{fresh_view}
use Rattle.chain_rule.specs.Passes.{NewFrom}
use Rattle.chain_rule.proofs.opening.others.Given as goal

abbrev pub invariant-loop-number : goal.invariant-loop-number
invariant-loop-number g l = record {
  own : l.first.table_id ≡ l.table.table.shared.table_id;
  view : l.first.view ≡ fresh_view l.table.setting 0 l.number;
  most : l.number-end ≡ l.table.setting.shape.passes;
  low : l.number ≤ l.number-end;
  count : length l.passes.items + 1 ≡ l.number;
  new : NewFrom l.table.table.shared.table_id l.table.setting 1 l.passes.items;
}
