use Rattle.std.proofs.Common.{length, ◌^◌, refl}
use Rattle.probe_automata.proofs.FilterSteps.{rows_step}
use Rattle.probe_automata.proofs.filters.all_filters.Goals as goal

pub loop-letter-preserved : goal.loop-letter-preserved
loop-letter-preserved c =
    let (row, e, r) = c.in_ok-push_filters.ensures in
    rows_step c.args.each.now c.args.guards.now (2 ^ length c.args.guards.now) c.args.letters.now c.loop-letter.letter-index _ _ c.loop-letter.filters c.push_filters.new.filters row c.loop-letter-test.true refl c.loop-letter.invariant e r
