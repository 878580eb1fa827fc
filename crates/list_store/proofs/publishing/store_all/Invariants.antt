-- So many words are stored.
use Rattle.std.proofs.Common.{◌≡◌, ◌*◌, ◌≤◌, ℕ, length}
use Rattle.chain_rule.specs.declared.view.View.{View}
use Rattle.chain_rule.specs.Passes.{Belongs}
use Rattle.list_store.specs.Lists.{IsStoring}
use Rattle.list_store.proofs.publishing.store_all.Given as goal

abbrev pub invariant-loop-at : goal.invariant-loop-at
invariant-loop-at g l = record {
  own : Belongs l.pass l.table.table_id l.table.setting;
  low : l.at ≤ l.at-end;
  most : l.at-end ≡ 3 * length l.words;
  stored : (number : ℕ) (v : View g.row.M.Denot) → IsStoring number l.words 0 v l.fn.pass.view → IsStoring number l.words l.at v l.pass.view;
}
