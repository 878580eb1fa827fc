use Rattle.std.proofs.Common.{refl, ◌≡◌, ◌&&◌}
use Rattle.probe_words.proofs.LayingParts.{seq_adds}
use Rattle.probe_words.proofs.laying.in_a_row.Goals as goal
use Rattle.probe_words.proofs.laying.in_a_row.Goals.{then-empty, else-empty}

pub returns : goal.returns
returns c =
    let e : c.if-empty.both ≡ (c.args.left.empty && c.args.right.empty) =
    elim c.if-empty.branch [ then-empty w ↦ rw (w.both-is, w.if-empty.true) refl | else-empty w ↦ rw (w.both-is, w.if-empty.false) refl ] in
    λ r s at before between a b. seq_adds r s at before between c.args.work.now _ c.args.left c.args.right _ c.set_of.result a b refl refl c.add_to_each.ensures c.set_of.ensures c.in_ok-first.ensures e c.with_if-last.ensures
