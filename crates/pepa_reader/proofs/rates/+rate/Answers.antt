use Rattle.std.proofs.Common.{refl}
use Rattle.std.proofs.lemmas.Result.{err_from_is_err_and}
use Rattle.pepa_reader.specs.Grammar.{Amount, Naming}
use Rattle.token_grammar.specs.Cursors.{kinds_of}
use Rattle.pepa_reader.proofs.RateReading.{no_factor, bracket_fails, bracket_stays_open, is_bracketed, product_fails, is_one_factor, is_produced, sum_fails, is_one_product, is_summed}
use Rattle.pepa_reader.proofs.rates.+rate.Goals as goal

pub factor-returns-in-Some : goal.factor-returns-in-Some
factor-returns-in-Some t c = record { factor = Amount; spelled = c.in-Some.ensures.spelled; tree = refl }

pub factor-returns-in-Some-small : goal.factor-returns-in-Some-small
factor-returns-in-Some-small t c = record { factor = Naming c.in-Some-small.ensures.0; spelled = c.in-Some-small.ensures.1.spelled; tree = refl }

pub factor-returns-in_err-inside : goal.factor-returns-in_err-inside
factor-returns-in_err-inside t c =
    let p = err_from_is_err_and c.from_residual.result c.from_residual.ensures.1 in
    rw (p.1, p.2) (no_factor (kinds_of c.args.text.now) c.args.at c.in_err-inside.field-0.0 c.in_default.ensures c.in_default-small.ensures c.in_err-inside.ensures)

pub factor-returns-in_err-inner : goal.factor-returns-in_err-inner
factor-returns-in_err-inner t c =
    let p = err_from_is_err_and c.from_residual-in_err-inner.result c.from_residual-in_err-inner.ensures.1 in
    rw (p.1, p.2) (bracket_fails (kinds_of c.args.text.now) c.args.at c.in_ok-inside.inside c.in_err-inner.field-0.0 c.in_ok-inside.ensures c.in_err-inner.ensures)

pub factor-returns-in_err-next : goal.factor-returns-in_err-next
factor-returns-in_err-next t c =
    let p = err_from_is_err_and c.from_residual-in_err-next.result c.from_residual-in_err-next.ensures.1 in
    rw (p.1, p.2) (bracket_stays_open (kinds_of c.args.text.now) c.args.at c.in_ok-inside.inside c.in_ok-inner.inner c.in_err-next.field-0.0 c.in_ok-inside.ensures c.in_ok-inner.ensures.0 c.in_ok-inner.ensures.1 c.in_err-next.ensures)

pub factor-returns : goal.factor-returns
factor-returns t c =
    is_bracketed (kinds_of c.args.text.now) c.args.at c.in_ok-inside.inside c.in_ok-next.next c.in_ok-inner.inner c.in_ok-tree.tree c.in_ok-inside.ensures c.in_ok-inner.ensures.0 c.in_ok-next.ensures c.in_ok-tree.ensures

pub product-loop-behind-init : goal.product-loop-behind-init
product-loop-behind-init t c = is_one_factor (kinds_of c.args.text.now) c.args.at c.in_ok-read.read c.in_ok-read.ensures

pub product-returns-in_err-right : goal.product-returns-in_err-right
product-returns-in_err-right t c =
    let p = err_from_is_err_and c.from_residual-in_err-right.result c.from_residual-in_err-right.ensures.1 in
    rw (p.1, p.2) (product_fails (kinds_of c.args.text.now) c.args.at c.in-Some.behind c.loop-behind.read c.in-Some.ensures.0 c.in_err-right.field-0.0 c.loop-behind.invariant c.in-Some.ensures.1 c.in_err-right.ensures)

pub product-loop-behind-preserved : goal.product-loop-behind-preserved
product-loop-behind-preserved t c =
    is_produced (kinds_of c.args.text.now) c.args.at c.in-Some.behind c.loop-behind.read c.in_ok-right.right c.in_ok-read-2.read c.in-Some.ensures.0 c.loop-behind.invariant c.in-Some.ensures.1 c.in_ok-right.ensures c.in_ok-read-2.ensures.0 c.in_ok-read-2.ensures.1

pub sum-loop-behind-init : goal.sum-loop-behind-init
sum-loop-behind-init t c = record { sums = is_one_product (kinds_of c.args.text.now) c.args.at c.in_ok-read.read c.in_ok-read.ensures.0; ends = c.in_ok-read.ensures.1 }

pub sum-returns-in_err-right : goal.sum-returns-in_err-right
sum-returns-in_err-right t c =
    let p = err_from_is_err_and c.from_residual-in_err-right.result c.from_residual-in_err-right.ensures.1 in
    rw (p.1, p.2) (sum_fails (kinds_of c.args.text.now) c.args.at c.in-Some.behind c.loop-behind.read c.in-Some.ensures.0 c.in_err-right.field-0.0 c.loop-behind.invariant.sums c.in-Some.ensures.1 c.in_err-right.ensures)

pub sum-loop-behind-preserved : goal.sum-loop-behind-preserved
sum-loop-behind-preserved t c = record {
  sums = is_summed (kinds_of c.args.text.now) c.args.at c.in-Some.behind c.loop-behind.read c.in_ok-right.right c.in_ok-read-2.read c.in-Some.ensures.0 c.loop-behind.invariant.sums c.in-Some.ensures.1 c.in_ok-right.ensures.0 c.in_ok-read-2.ensures.0 c.in_ok-read-2.ensures.1;
  ends = rw c.in_ok-read-2.ensures.1 c.in_ok-right.ensures.1;
}
