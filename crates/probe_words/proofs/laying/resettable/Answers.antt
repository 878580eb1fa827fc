use Rattle.std.proofs.Common.{refl, ◌≡◌, ◌+◌, ◌≤◌, ◌∙◌, ℕ, arith, length, subst, ◌<◌, ◌↔◌}
use Rattle.probe_words.specs.Sets.{HasMember}
use Rattle.probe_words.specs.Core.{size_of}
use Rattle.probe_words.proofs.LayingParts.{res_adds, pushed_length}
use Rattle.probe_words.proofs.Sets.{only_one, own_set}
use Rattle.probe_words.proofs.laying.resettable.Goals as goal

pub returns : goal.returns
returns c = λ r before a.
    let p = c.in_ok-push_position.ensures in
    let n : length c.args.work.now.places ≡ c.args.at + size_of r = a.count in
    let e = c.len-new.ensures ∙ n in
    let l = (pushed_length c.args.work.now c.push_position.new.work _ 0 _ c.requires.even p.0).0 in (
      res_adds r c.args.at c.args.letter before c.args.work.now c.push_position.new.work _ _ c.args.part _ c.with-own.result c.range.result c.with-more.result c.requires.even a p.0 (rw c.new-guards.ensures refl) refl refl c.add_to_each.ensures
          (own_set c.with-own.result c.set_of.result c.len-new.result (c.args.at + size_of r) c.args.part.first c.set_of.ensures c.with-own.ensures e)
          (subst (λ (k : ℕ). (i : ℕ) → HasMember c.range.result i ↔ ((c.args.at ≤ i) × (i < k))) e c.range.ensures)
          (only_one c.with-more.result (c.args.at + size_of r) (c.with-more.ensures ∙ rw e refl))
          (c.in_ok-push.ensures.ok ∙ rw e refl) refl c.with_if-last.ensures,
      omega arith,
    )
