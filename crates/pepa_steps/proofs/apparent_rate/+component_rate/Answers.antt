use Rattle.std.proofs.Common.{◌≡◌, ◌==◌, Bool, true, false, if◌then◌else◌, arith, refl, sym, ap, ◌∙◌}
use Rattle.std.specs.Bool.{then_some}
use Rattle.pepa_rates.specs.declared.rate.Rate.{Rate}
use Rattle.pepa_model.specs.Apparent.{NoRate, Rated}
use Rattle.std.proofs.lemmas.Result.{err_from_is_err_and}
use Rattle.pepa_model.specs.Expression.{expression_of}
use Rattle.pepa_steps.specs.ApparentAnswers.{apparent_of}
use Rattle.pepa_steps.proofs.Opening.{choice_can_open, const_can_open, has_body}
use Rattle.pepa_steps.proofs.ApparentRates.{prefix_answers, left_fault, right_fault, choice_answers, const_answers}
use Rattle.pepa_steps.proofs.apparent_rate.+component_rate.Goals as goal

pub overflow_sub-depth : goal.overflow_sub-depth
overflow_sub-depth t c = (choice_can_open _ _ _ _ _ (ap expression_of c.in-Choice.is) c.requires).positive

pub component_rate-requires : goal.component_rate-requires
component_rate-requires t c =
    let parts = choice_can_open _ _ _ _ _ (ap expression_of c.in-Choice.is) c.requires in
    (omega (arith, parts.positive), rw c.deref.ensures parts.left)

pub overflow_sub-depth-in-Choice : goal.overflow_sub-depth-in-Choice
overflow_sub-depth-in-Choice t c = (choice_can_open _ _ _ _ _ (ap expression_of c.in-Choice.is) c.requires).positive

pub component_rate-requires-in-Choice : goal.component_rate-requires-in-Choice
component_rate-requires-in-Choice t c =
    let parts = choice_can_open _ _ _ _ _ (ap expression_of c.in-Choice.is) c.requires in
    (omega (arith, parts.positive), rw c.deref-in-Choice.ensures parts.right)

pub body-requires : goal.body-requires
body-requires t c = has_body _ _ _ _ (ap expression_of c.in-Constant.is) c.requires

pub overflow_sub-depth-in-Constant : goal.overflow_sub-depth-in-Constant
overflow_sub-depth-in-Constant t c = (const_can_open _ _ _ _ _ (ap expression_of c.in-Constant.is) c.body.ensures c.requires).positive

pub component_rate-requires-in-Constant : goal.component_rate-requires-in-Constant
component_rate-requires-in-Constant t c =
    let body = const_can_open _ _ _ _ _ (ap expression_of c.in-Constant.is) c.body.ensures c.requires in
    (omega (arith, body.positive), body.inner)

pub returns-in_err-left-in-Choice : goal.returns-in_err-left-in-Choice
returns-in_err-left-in-Choice t c =
    let p = err_from_is_err_and c.from_residual.result c.from_residual.ensures.1 in
    rw (p.1, p.2) (left_fault _ _ _ _ _ _ (ap expression_of c.in-Choice.is) (rw c.deref.ensures at c.in_err-left-in-Choice.ensures))

pub returns-in_err-right-in-Choice : goal.returns-in_err-right-in-Choice
returns-in_err-right-in-Choice t c =
    let p = err_from_is_err_and c.from_residual-in_err-right-in-Choice.result c.from_residual-in_err-right-in-Choice.ensures.1 in
    rw (p.1, p.2)
    (right_fault _ _ _ _ _ _ _ (ap expression_of c.in-Choice.is)
    (rw c.deref.ensures at c.in_ok-left-in-Choice.ensures)
    (rw c.deref-in-Choice.ensures at c.in_err-right-in-Choice.ensures))

own_rate : (b : Bool) (r : Rate) → (if b then Rated r else NoRate) ≡ apparent_of (then_some b r)
own_rate true r = refl
own_rate false r = refl

pub returns-in-Prefix : goal.returns-in-Prefix
returns-in-Prefix t c =
    prefix_answers _ _ _ _ _ _ _ (ap expression_of c.in-Prefix.is) c.valid.ensures.in_range
    (own_rate (c.in-Prefix.own == c.args.action) c.in-Prefix.rate ∙ ap apparent_of (sym c.then_some.ensures))

pub returns-in_ok-right-in-Choice : goal.returns-in_ok-right-in-Choice
returns-in_ok-right-in-Choice t c =
    choice_answers _ _ _ _ _ _ _ _ (ap expression_of c.in-Choice.is)
    (rw c.deref.ensures at c.in_ok-left-in-Choice.ensures)
    (rw c.deref-in-Choice.ensures at c.in_ok-right-in-Choice.ensures)
    c.rate_together.ensures

pub returns-in-Constant : goal.returns-in-Constant
returns-in-Constant t c = const_answers _ _ _ _ _ _ (ap expression_of c.in-Constant.is) c.body.ensures c.component_rate-in-Constant.ensures
