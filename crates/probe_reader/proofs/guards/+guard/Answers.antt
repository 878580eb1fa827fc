use Rattle.std.proofs.Common.{refl}
use Rattle.std.proofs.lemmas.Result.{err_from_is_err_and}
use Rattle.token_grammar.specs.Cursors.{kinds_of}
use Rattle.probe_reader.proofs.GuardReading.{negated_fails, is_negated, enclosed_fails, enclosed_stays_open, is_enclosed, no_constant, no_relation, no_bound, is_comparison, is_one_negation, conjunction_fails, is_conjoined, is_one_conjunction, guard_fails, is_disjoined}
use Rattle.probe_reader.proofs.guards.+guard.Goals as goal

pub negation-returns-in_err-inner : goal.negation-returns-in_err-inner
negation-returns-in_err-inner t c =
    let p = err_from_is_err_and c.from_residual.result c.from_residual.ensures.1 in
    rw (p.1, p.2) (negated_fails (kinds_of c.args.text.now) c.args.at c.in-Some.inside c.in_err-inner.field-0.0 c.in-Some.ensures c.in_err-inner.ensures)

pub negation-returns-in-Some : goal.negation-returns-in-Some
negation-returns-in-Some t c = is_negated (kinds_of c.args.text.now) c.args.at c.in-Some.inside c.in_ok-inner.inner c.in_ok-read.read c.in-Some.ensures c.in_ok-inner.ensures c.in_ok-read.ensures.0 c.in_ok-read.ensures.1

pub negation-returns-in_err-tree : goal.negation-returns-in_err-tree
negation-returns-in_err-tree t c =
    let p = err_from_is_err_and c.from_residual-in_err-tree.result c.from_residual-in_err-tree.ensures.1 in
    rw (p.1, p.2) (enclosed_fails (kinds_of c.args.text.now) c.args.at c.in-Some-after.inside c.in_err-tree.field-0.0 c.in-Some-after.ensures c.in_err-tree.ensures)

pub negation-returns-in_err-next : goal.negation-returns-in_err-next
negation-returns-in_err-next t c =
    let p = err_from_is_err_and c.from_residual-in_err-next.result c.from_residual-in_err-next.ensures.1 in
    rw (p.1, p.2) (enclosed_stays_open (kinds_of c.args.text.now) c.args.at c.in-Some-after.inside c.in_ok-tree.field-0 c.in_err-next.field-0.0 c.in-Some-after.ensures c.in_ok-tree.ensures.0 c.in_ok-tree.ensures.1 c.in_err-next.ensures)

pub negation-returns-in-Some-after : goal.negation-returns-in-Some-after
negation-returns-in-Some-after t c =
    is_enclosed (kinds_of c.args.text.now) c.args.at c.in-Some-after.inside c.in_ok-tree.field-0 (record { tree = c.in_ok-tree.field-0.tree; next = c.in_ok-next.next }) c.in-Some-after.ensures c.in_ok-tree.ensures.0 c.in_ok-next.ensures refl

pub negation-returns-in_err-sign : goal.negation-returns-in_err-sign
negation-returns-in_err-sign t c =
    let p = err_from_is_err_and c.from_residual-in_err-sign.result c.from_residual-in_err-sign.ensures.1 in
    rw (p.1, p.2) (no_constant (kinds_of c.args.text.now) c.args.at c.in_err-sign.field-0.0 c.in_default.ensures c.in_default-after.ensures c.in_err-sign.ensures)

pub negation-returns-in_err-number : goal.negation-returns-in_err-number
negation-returns-in_err-number t c =
    let p = err_from_is_err_and c.from_residual-in_err-number.result c.from_residual-in_err-number.ensures.1 in
    rw (p.1, p.2) (no_relation (kinds_of c.args.text.now) c.args.at c.in_ok-sign.sign c.in_err-number.field-0.0 c.in_ok-sign.ensures c.in_err-number.ensures)

pub negation-returns-in_err-next-2 : goal.negation-returns-in_err-next-2
negation-returns-in_err-next-2 t c =
    let p = err_from_is_err_and c.from_residual-in_err-next-2.result c.from_residual-in_err-next-2.ensures.1 in
    rw (p.1, p.2) (no_bound (kinds_of c.args.text.now) c.args.at c.in_ok-sign.sign c.in_ok-number.number c.in_ok-number.ensures.0 c.in_err-next-2.field-0.0 c.in_ok-sign.ensures c.in_ok-number.ensures.1 c.in_err-next-2.ensures)

pub negation-returns : goal.negation-returns
negation-returns t c =
    is_comparison (kinds_of c.args.text.now) c.args.at c.in_ok-sign.sign c.in_ok-number.number c.in_ok-number.ensures.0 _ c.in_ok-sign.ensures c.in_ok-number.ensures.1 c.in_ok-next-2.ensures refl

pub conjunction-loop-behind-init : goal.conjunction-loop-behind-init
conjunction-loop-behind-init t c = is_one_negation (kinds_of c.args.text.now) c.args.at c.in_ok-read.read c.in_ok-read.ensures

pub conjunction-returns-in_err-right : goal.conjunction-returns-in_err-right
conjunction-returns-in_err-right t c =
    let p = err_from_is_err_and c.from_residual-in_err-right.result c.from_residual-in_err-right.ensures.1 in
    rw (p.1, p.2) (conjunction_fails (kinds_of c.args.text.now) c.args.at c.in-Some.behind c.loop-behind.read c.in_err-right.field-0.0 c.loop-behind.invariant c.in-Some.ensures c.in_err-right.ensures)

pub conjunction-loop-behind-preserved : goal.conjunction-loop-behind-preserved
conjunction-loop-behind-preserved t c = is_conjoined (kinds_of c.args.text.now) c.args.at c.in-Some.behind c.loop-behind.read c.in_ok-right.right c.in_ok-read-2.read c.loop-behind.invariant c.in-Some.ensures c.in_ok-right.ensures c.in_ok-read-2.ensures.0 c.in_ok-read-2.ensures.1

pub guard-loop-behind-init : goal.guard-loop-behind-init
guard-loop-behind-init t c = record { guards = is_one_conjunction (kinds_of c.args.text.now) c.args.at c.in_ok-read.read c.in_ok-read.ensures.0; ends = c.in_ok-read.ensures.1 }

pub guard-returns-in_err-right : goal.guard-returns-in_err-right
guard-returns-in_err-right t c =
    let p = err_from_is_err_and c.from_residual-in_err-right.result c.from_residual-in_err-right.ensures.1 in
    rw (p.1, p.2) (guard_fails (kinds_of c.args.text.now) c.args.at c.in-Some.behind c.loop-behind.read c.in_err-right.field-0.0 c.loop-behind.invariant.guards c.in-Some.ensures c.in_err-right.ensures)

pub guard-loop-behind-preserved : goal.guard-loop-behind-preserved
guard-loop-behind-preserved t c = record {
  guards = is_disjoined (kinds_of c.args.text.now) c.args.at c.in-Some.behind c.loop-behind.read c.in_ok-right.right c.in_ok-read-2.read c.loop-behind.invariant.guards c.in-Some.ensures c.in_ok-right.ensures.0 c.in_ok-read-2.ensures.0 c.in_ok-read-2.ensures.1;
  ends = rw c.in_ok-read-2.ensures.1 c.in_ok-right.ensures.1;
}
