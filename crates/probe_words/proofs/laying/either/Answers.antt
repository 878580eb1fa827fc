use Rattle.std.proofs.Common.{refl, ◌≡◌, ◌||◌}
use Rattle.probe_words.proofs.LayingParts.{alt_adds}
use Rattle.probe_words.proofs.laying.either.Goals as goal
use Rattle.probe_words.proofs.laying.either.Goals.{then-empty, else-empty}

pub returns : goal.returns
returns c =
    let e : c.if-empty.empty ≡ (c.args.left.empty || c.args.right.empty) =
    elim c.if-empty.branch [ then-empty w ↦ rw (w.empty-is, w.if-empty.true) refl | else-empty w ↦ rw (w.empty-is, w.if-empty.false) refl ] in
    λ r s at before between after a b. alt_adds r s at before between after c.args.left c.args.right _ a b c.in_ok-first.ensures e c.with_if-last.ensures
