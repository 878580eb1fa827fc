use Rattle.std.proofs.Common.{◌<◌, ◌≤◌, ℕ, List, length, get_or, arith, ◌∙◌, refl, subst}
use Rattle.std.proofs.lemmas.Result.{err_from_is_err_and}
use Rattle.probe_words.specs.Twins.{condition_of}
use Rattle.probe_words.proofs.PlaceLists.{among_index}
use Rattle.probe_words.proofs.Sets.{only_one}
use Rattle.probe_words.proofs.LayingCopies.{Copies, copies_step, grd_adds, copy_fails, last_more, copied_all}
use Rattle.probe_words.proofs.laying.guarded.Goals as goal

pub push_copy-requires-clause-there : goal.push_copy-requires-clause-there
push_copy-requires-clause-there c =
    let e = c.as_slice-from-items.ensures in
    let l : c.loop-from.from-index < length c.args.part.first = rw (← e) c.loop-from-test.true in
    let h = c.requires.numbers _ (among_index c.args.part.first c.loop-from.from-index 0 l) in
    let n = c.loop-from.invariant.count in
    rw e (omega arith)

pub has-requires : goal.has-requires
has-requires c =
    let e = c.as_slice-from-items.ensures in
    let l : c.loop-from.from-index < length c.args.part.first = rw (← e) c.loop-from-test.true in
    let h = c.requires.numbers _ (among_index c.args.part.first c.loop-from.from-index 0 l) in
    let r = c.requires.room in
    rw e (omega arith)

pub returns-in_err-push_copy : goal.returns-in_err-push_copy
returns-in_err-push_copy c = λ r at before a.
    let p = err_from_is_err_and c.from_residual.result c.from_residual.ensures.1 in
    let e = c.as_slice-from-items.ensures in
    let i = subst (λ (z : List ℕ). Copies (condition_of c.args.guard.now) z c.args.part.last c.args.work.now c.loop-from.from-index c.loop-from.work c.loop-from.first c.loop-from.last) e c.loop-from.invariant in
    let l : c.loop-from.from-index < length c.args.part.first = rw (← e) c.loop-from-test.true in
    rw (p.1, p.2) (copy_fails (condition_of c.args.guard.now) r at before c.args.work.now c.loop-from.work c.push_copy.new.work c.args.part c.loop-from.from-index c.loop-from.first c.loop-from.last (get_or c.as_slice-from-items.result.now c.loop-from.from-index 0) c.in_err-push_copy.field-0.0 a i l c.in_err-push_copy.ensures)

pub loop-from-preserved : goal.loop-from-preserved
loop-from-preserved c =
    let e = c.as_slice-from-items.ensures in
    let l : c.loop-from.from-index < length c.args.part.first = rw (← e) c.loop-from-test.true in
    let h = c.requires.numbers _ (among_index c.args.part.first c.loop-from.from-index 0 l) in
    let (p, q, s, m, pushed, room) = c.in_ok-push_copy.ensures in
    let n = c.len-copy.ensures in
    let only = only_one c.with.result (length c.loop-from.work.places) (c.with.ensures ∙ rw n refl) in
    copies_step (condition_of c.args.guard.now) c.as_slice-from-items.result.now c.args.part.last c.args.work.now c.loop-from.from-index c.loop-from.work c.push_copy.new.work c.loop-from.first c.push.new.self c.loop-from.last c.with_if-last.result _ p q c.loop-from.invariant c.loop-from-test.true refl (rw e h) s m pushed room (c.in_ok-push.ensures.ok ∙ rw n refl)
    (last_more c.args.part.last c.loop-from.last c.with_if-last.result c.with.result _ (length c.loop-from.work.places) 0 c.has.result c.has.ensures only c.with_if-last.ensures)

pub returns : goal.returns
returns c = λ r at before a.
    let e = c.as_slice-from-items.ensures in
    let i = subst (λ (z : List ℕ). Copies (condition_of c.args.guard.now) z c.args.part.last c.args.work.now c.loop-from.from-index c.loop-from.work c.loop-from.first c.loop-from.last) e c.loop-from.invariant in
    let x : length c.args.part.first ≤ c.loop-from.from-index = rw (← e) c.loop-from-test.false in
    let y : c.loop-from.from-index ≤ length c.args.part.first = rw (← e) c.loop-from.auto.from-index-end in
    let t = copied_all c.args.part.first c.loop-from.from-index x y in
    (grd_adds (condition_of c.args.guard.now) r at before c.args.work.now c.loop-from.work c.args.part _ c.loop-from.from-index a i t.0 t.1 refl, c.loop-from.invariant.room)
