use Rattle.std.proofs.Common.{ℕ, ap, slice_index_or}
use Rattle.pepa_steps.specs.Hidings.{hidden_entry}
use Rattle.pepa_steps.specs.declared.entries.Entry.{Entry}
use Rattle.pepa_steps.proofs.NodeLists.{turned}
use Rattle.pepa_steps.proofs.hiding.hide.Goals as goal

abbrev with_action : Entry → ℕ → Entry
with_action e action = record { action = action; signals = e.signals; rate = e.rate }

pub loop-entry-preserved : goal.loop-entry-preserved
loop-entry-preserved c =
    turned (hidden_entry c.args.types.now) c.args.entries.now c.loop-entry.entry-items c.loop-entry.entry-index c.entry-item.result _ c.loop-entry-test.true c.loop-entry.invariant
    (ap (with_action (slice_index_or c.loop-entry.entry-items c.loop-entry.entry-index c.entry-item.result)) c.shown-entry.ensures)
