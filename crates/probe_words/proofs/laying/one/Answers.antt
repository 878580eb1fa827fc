use Rattle.std.proofs.Common.{refl, ◌≡◌, arith, length, ◌∙◌, ◌∷◌, []}
use Rattle.probe_words.proofs.LayingParts.{one_adds, pushed_length}
use Rattle.probe_words.proofs.Sets.{only_one}
use Rattle.probe_words.proofs.laying.one.Goals as goal

pub returns : goal.returns
returns c =
    let p = c.in_ok-push_position.ensures in
    let f : c.push.new.self ≡ length c.args.work.now.places ∷ [] = c.in_ok-push.ensures.ok ∙ rw (c.new-first.ensures, c.len-at.ensures) refl in (
      one_adds c.args.letter c.args.work.now c.push_position.new.work _ _ c.requires.even p.0 (rw c.new-guards.ensures refl) f refl (only_one _ _ (c.with-last.ensures ∙ rw c.len-at.ensures refl)),
      (let l = (pushed_length c.args.work.now c.push_position.new.work _ 0 0 c.requires.even p.0).0 in omega arith),
    )
