use Rattle.std.proofs.Common.{arith}
use Rattle.std.proofs.lemmas.Grind.{take_at_read}
use Rattle.probe_words.proofs.PlaceLists.{among_index}
use Rattle.probe_words.proofs.Sets.{more_set}
use Rattle.probe_words.proofs.bit_sets.set_of.Goals as goal

pub with-set-requires : goal.with-set-requires
with-set-requires c = rw c.as_slice-number-items.ensures
    (c.requires _ (among_index c.args.numbers.now c.loop-number.number-index 0 (rw (← c.as_slice-number-items.ensures) (omega arith))))

pub loop-number-preserved : goal.loop-number-preserved
loop-number-preserved c = rw (c.with-set.ensures, c.as_slice-number-items.ensures)
    (more_set _ _ _ _ (take_at_read c.args.numbers.now c.loop-number.number-index 0 (rw (← c.as_slice-number-items.ensures) (omega arith))).1 c.loop-number.invariant)
