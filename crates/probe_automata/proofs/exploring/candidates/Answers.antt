use Rattle.std.proofs.Common.{◌≡◌, sym, ◌∙◌, get_or}
use Rattle.std.specs.Int.{bit_at}
use Rattle.probe_words.specs.Laying.{united_if}
use Rattle.probe_words.proofs.Sets.{joined_where, joined_elsewhere}
use Rattle.probe_automata.proofs.Unions.{unite_step}
use Rattle.probe_automata.proofs.exploring.candidates.Goals as goal
use Rattle.probe_automata.proofs.exploring.candidates.Goals.{then-has, else-has}

pub loop-at-preserved : goal.loop-at-preserved
loop-at-preserved c =
    let e = c.as_slice-follow-items.ensures in
    let n : c.if-has.all ≡ united_if (bit_at c.args.set c.loop-at.at) c.loop-at.all (get_or c.args.positions.now.follow c.loop-at.at 0) =
    elim c.if-has.branch [
      | then-has w ↦ w.all-is ∙ rw (← e) (sym (joined_where _ _ _ (sym c.has.ensures ∙ w.if-has.true)))
      | else-has w ↦ w.all-is ∙ sym (joined_elsewhere c.args.set c.loop-at.at _ _ (sym c.has.ensures ∙ w.if-has.false))
    ] in
    unite_step c.args.set c.loop-at.at c.loop-at.all c.if-has.all _ c.args.positions.now.follow (rw (← e) c.loop-at-test.true) c.loop-at.invariant n
