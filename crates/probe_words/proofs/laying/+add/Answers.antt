use Rattle.std.proofs.Common.{◌-◌, ◌∙◌, arith, ap, sym}
use Rattle.probe_words.specs.declared.expression.Expr.{Expr}
use Rattle.probe_words.specs.Laying.{pattern_height}
use Rattle.probe_words.specs.CoreForm.{core_of, row_of, tail_of}
use Rattle.probe_words.specs.Twins.{pattern_of}
use Rattle.probe_words.proofs.LayingParts.{small_firsts, is_even}
use Rattle.probe_words.specs.Core.{Sequence}
use Rattle.std.proofs.lemmas.Result.{err_from_is_err_and}
use Rattle.probe_words.proofs.LayingCopies.{first_before}
use Rattle.probe_words.proofs.NoPositions.{void_row, void_tail}
use Rattle.probe_words.proofs.CopiesInARow.{row_is, tail_is, behind_at, joined_answers, front_fails, back_fails, maybe_fails, first_fails}
use Rattle.probe_words.proofs.laying.+add.Goals as goal

pub add-in_a_row-requires-clause-numbers : goal.add-in_a_row-requires-clause-numbers
add-in_a_row-requires-clause-numbers t c = small_firsts _ _ _ _ _ c.in_ok-right-in-Then.ensures.0 c.in_ok-right-in-Then.ensures.1

pub add-repeated-requires-clause-numbers : goal.add-repeated-requires-clause-numbers
add-repeated-requires-clause-numbers t c = small_firsts _ _ _ _ _ c.in_ok-part-in-Star.ensures.0 c.in_ok-part-in-Star.ensures.1

pub add-repeated-requires-in-Plus-clause-numbers : goal.add-repeated-requires-in-Plus-clause-numbers
add-repeated-requires-in-Plus-clause-numbers t c = small_firsts _ _ _ _ _ c.in_ok-part-in-Plus.ensures.0 c.in_ok-part-in-Plus.ensures.1

pub add-in_a_row-requires-in-Between-clause-numbers : goal.add-in_a_row-requires-in-Between-clause-numbers
add-in_a_row-requires-in-Between-clause-numbers t c = small_firsts _ _ _ _ _ c.in_ok-back-in-Between.ensures.0 c.in_ok-back-in-Between.ensures.1

pub add-resettable-requires-clause-numbers : goal.add-resettable-requires-clause-numbers
add-resettable-requires-clause-numbers t c = small_firsts _ _ _ _ _ c.in_ok-part-in-Reset.ensures.0 c.in_ok-part-in-Reset.ensures.1

pub add_row-in_a_row-requires-clause-numbers : goal.add_row-in_a_row-requires-clause-numbers
add_row-in_a_row-requires-clause-numbers t c = small_firsts _ _ _ _ _ c.in_ok-back.ensures.0 c.in_ok-back.ensures.1

pub add_tail-in_a_row-requires-clause-numbers : goal.add_tail-in_a_row-requires-clause-numbers
add_tail-in_a_row-requires-clause-numbers t c = small_firsts _ _ _ _ _ c.in_ok-back.ensures.0 c.in_ok-back.ensures.1

pub add-returns-in_ok-part-in-Star : goal.add-returns-in_ok-part-in-Star
add-returns-in_ok-part-in-Star t c =
    let i = c.in_ok-part-in-Star.ensures in
    let a = c.repeated.ensures _ _ _ i.0 in
    let b = c.maybe.ensures _ _ _ _ a in
    rw (c.in-Star.is, ← c.deref-in-Star.ensures) (b, (let x = a.count in let y = i.0.count in let z = i.1 in omega arith))

pub add-returns-in_ok-part-in-Maybe : goal.add-returns-in_ok-part-in-Maybe
add-returns-in_ok-part-in-Maybe t c =
    let b = c.maybe-in-Maybe.ensures _ _ _ _ c.in_ok-part-in-Maybe.ensures.0 in
    rw (c.in-Maybe.is, ← c.deref-in-Maybe.ensures) (b, c.in_ok-part-in-Maybe.ensures.1)

pub add-add_row-requires : goal.add-add_row-requires
add-add_row-requires t c =
    let p = rw c.in-Times.is at c.requires.proper in
    let h = ap (λ (e : Expr). pattern_height (pattern_of e)) c.in-Times.is in
    let d = ap (λ (e : Expr). pattern_height (pattern_of e)) c.deref-in-Times.ensures in
    (omega arith, (c.requires.room, (c.requires.even, (rw c.deref-in-Times.ensures p.0, p.1))))

pub add-add_row-requires-in-Between : goal.add-add_row-requires-in-Between
add-add_row-requires-in-Between t c =
    let p = rw c.in-Between.is at c.requires.proper in
    let h = ap (λ (e : Expr). pattern_height (pattern_of e)) c.in-Between.is in
    let d = ap (λ (e : Expr). pattern_height (pattern_of e)) c.deref-in-Between.ensures in
    (let q = p.1 in let r = p.2 in omega arith, (c.requires.room, (c.requires.even, (rw c.deref-in-Between.ensures p.0, (let q = p.1 in let r = p.2 in omega arith)))))

pub add-add_tail-requires : goal.add-add_tail-requires
add-add_tail-requires t c =
    let p = rw c.in-Between.is at c.requires.proper in
    let h = ap (λ (e : Expr). pattern_height (pattern_of e)) c.in-Between.is in
    let d = ap (λ (e : Expr). pattern_height (pattern_of e)) c.deref-in-Between-2.ensures in
    let a = c.in_ok-front-in-Between.ensures in
    (let q = p.1 in let r = p.2 in omega arith, (a.1, (is_even _ _ _ _ _ a.0, (rw c.deref-in-Between-2.ensures p.0, (let q = p.1 in let r = p.2 in omega arith)))))

pub add_row-returns-in_err-front : goal.add_row-returns-in_err-front
add_row-returns-in_err-front t c =
    let p = err_from_is_err_and c.from_residual.result c.from_residual.ensures.1 in
    rw (row_is _ c.args.count c.if-count-eq0.false, p.1, p.2) (front_fails (row_of (core_of (pattern_of c.args.inner.now)) (c.args.count - 1)) (core_of (pattern_of c.args.inner.now)) c.args.work.now c.add_row.new.work c.add_row.new.work c.in_err-front.field-0.0 c.in_err-front.ensures)

pub add_row-returns-in_err-back : goal.add_row-returns-in_err-back
add_row-returns-in_err-back t c =
    let p = err_from_is_err_and c.from_residual-in_err-back.result c.from_residual-in_err-back.ensures.1 in
    rw (row_is _ c.args.count c.if-count-eq0.false, p.1, p.2) (back_fails (row_of (core_of (pattern_of c.args.inner.now)) (c.args.count - 1)) (core_of (pattern_of c.args.inner.now)) c.args.work.now c.add_row.new.work c.add.new.work c.in_ok-front.front c.in_err-back.field-0.0 c.in_ok-front.ensures.0 c.in_err-back.ensures)

pub add_row-returns : goal.add_row-returns
add_row-returns t c =
    let a = c.in_ok-front.ensures in
    let b = c.in_ok-back.ensures in
    rw (row_is _ c.args.count c.if-count-eq0.false)
    (joined_answers _ _ _ _ _ _ _ _ c.in_a_row.result a.0 b.0 b.1 (c.in_a_row.ensures _ _ _ _ _ a.0 (behind_at _ _ _ _ _ _ _ _ a.0 b.0)))

pub add_tail-returns-in_err-front : goal.add_tail-returns-in_err-front
add_tail-returns-in_err-front t c =
    let p = err_from_is_err_and c.from_residual.result c.from_residual.ensures.1 in
    rw (p.1, p.2) (first_fails (core_of (pattern_of c.args.inner.now)) c.args.count c.args.work.now c.add.new.work c.in_err-front.field-0.0 c.if-count-eq0.false c.in_err-front.ensures)

pub add_tail-returns-then-count-eq1 : goal.add_tail-returns-then-count-eq1
add_tail-returns-then-count-eq1 t c = rw c.if-count-eq1.true (c.maybe.ensures _ _ _ _ c.in_ok-front.ensures.0, c.in_ok-front.ensures.1)

pub add_tail-add_tail-requires : goal.add_tail-add_tail-requires
add_tail-add_tail-requires t c = let a = c.in_ok-front.ensures in (omega arith, (a.1, (is_even _ _ _ _ _ a.0, (c.requires.proper, omega arith))))

pub add_tail-returns-in_err-back : goal.add_tail-returns-in_err-back
add_tail-returns-in_err-back t c =
    let p = err_from_is_err_and c.from_residual-in_err-back.result c.from_residual-in_err-back.ensures.1 in
    rw (tail_is _ c.args.count c.if-count-eq0.false c.if-count-eq1.false, p.1, p.2) (maybe_fails (Sequence (core_of (pattern_of c.args.inner.now)) (tail_of (core_of (pattern_of c.args.inner.now)) (c.args.count - 1))) c.args.work.now c.add_tail.new.work c.in_err-back.field-0.0 (back_fails (core_of (pattern_of c.args.inner.now)) (tail_of (core_of (pattern_of c.args.inner.now)) (c.args.count - 1)) c.args.work.now c.add.new.work c.add_tail.new.work c.in_ok-front.front c.in_err-back.field-0.0 c.in_ok-front.ensures.0 c.in_err-back.ensures))

pub add_tail-returns : goal.add_tail-returns
add_tail-returns t c =
    let a = c.in_ok-front.ensures in
    let b = c.in_ok-back.ensures in
    let j = c.in_ok-both.ensures _ _ _ _ _ a.0 (behind_at _ _ _ _ _ _ _ _ a.0 b.0) in
    rw (tail_is _ c.args.count c.if-count-eq0.false c.if-count-eq1.false)
    (c.maybe-2.ensures _ _ _ _ j, (let x = a.0.count in let y = b.0.count in let z = j.count in let w = b.1 in omega arith))

pub add-guarded-requires-clause-numbers : goal.add-guarded-requires-clause-numbers
add-guarded-requires-clause-numbers t c = first_before _ _ _ _ _ c.in_ok-part-in-Guarded.ensures.0

pub add_row-returns-then-is_void : goal.add_row-returns-then-is_void
add_row-returns-then-is_void t c =
    let e = sym c.is_void.ensures ∙ c.if-is_void.true in
    (void_row (pattern_of c.args.inner.now) c.args.count _ c.args.work.now _ e (c.nothing-then-is_void.ensures c.args.work.now c.requires.even), c.requires.room)

pub add_tail-returns-then-is_void : goal.add_tail-returns-then-is_void
add_tail-returns-then-is_void t c =
    let e = sym c.is_void.ensures ∙ c.if-is_void.true in
    (void_tail (pattern_of c.args.inner.now) c.args.count _ c.args.work.now _ e (c.nothing-then-is_void.ensures c.args.work.now c.requires.even), c.requires.room)
