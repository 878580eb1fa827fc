use Rattle.std.proofs.Common.{arith, ap}
use Rattle.std.proofs.lemmas.Result.{err_from_is_err_and}
use Rattle.pepa_model.specs.Expression.{expression_of}
use Rattle.pepa_steps.proofs.Opening.{choice_can_open, const_can_open, has_body}
use Rattle.pepa_steps.proofs.ComponentRates.{prefix_answers, left_end, right_end, choice_answers, const_answers, answered_fine}
use Rattle.pepa_steps.proofs.action_rates.+component_rates.Goals as goal

pub overflow_sub-depth : goal.overflow_sub-depth
overflow_sub-depth t c = (choice_can_open _ _ _ _ _ (ap expression_of c.in-Choice.is) c.requires).positive

pub component_rates-requires : goal.component_rates-requires
component_rates-requires t c =
    let parts = choice_can_open _ _ _ _ _ (ap expression_of c.in-Choice.is) c.requires in
    (omega (arith, parts.positive), rw c.deref.ensures parts.left)

pub overflow_sub-depth-in-Choice : goal.overflow_sub-depth-in-Choice
overflow_sub-depth-in-Choice t c = (choice_can_open _ _ _ _ _ (ap expression_of c.in-Choice.is) c.requires).positive

pub component_rates-requires-in-Choice : goal.component_rates-requires-in-Choice
component_rates-requires-in-Choice t c =
    let parts = choice_can_open _ _ _ _ _ (ap expression_of c.in-Choice.is) c.requires in
    (omega (arith, parts.positive), rw c.deref-in-Choice.ensures parts.right)

pub body-requires : goal.body-requires
body-requires t c = has_body _ _ _ _ (ap expression_of c.in-Constant.is) c.requires

pub overflow_sub-depth-in-Constant : goal.overflow_sub-depth-in-Constant
overflow_sub-depth-in-Constant t c = (const_can_open _ _ _ _ _ (ap expression_of c.in-Constant.is) c.body.ensures c.requires).positive

pub component_rates-requires-in-Constant : goal.component_rates-requires-in-Constant
component_rates-requires-in-Constant t c =
    let body = const_can_open _ _ _ _ _ (ap expression_of c.in-Constant.is) c.body.ensures c.requires in
    (omega (arith, body.positive), body.inner)

pub returns-in_err-left-in-Choice : goal.returns-in_err-left-in-Choice
returns-in_err-left-in-Choice t c =
    let p = err_from_is_err_and c.from_residual.result c.from_residual.ensures.1 in
    rw (p.1, p.2) (left_end _ _ _ _ _ (ap expression_of c.in-Choice.is) (rw c.deref.ensures at c.in_err-left-in-Choice.ensures))

pub returns-in_err-right-in-Choice : goal.returns-in_err-right-in-Choice
returns-in_err-right-in-Choice t c =
    let p = err_from_is_err_and c.from_residual-in_err-right-in-Choice.result c.from_residual-in_err-right-in-Choice.ensures.1 in
    rw (p.1, p.2)
    (right_end _ _ _ _ c.in_ok-left-in-Choice.left _ (ap expression_of c.in-Choice.is)
    (rw c.deref.ensures at c.in_ok-left-in-Choice.ensures)
    (rw c.deref-in-Choice.ensures at c.in_err-right-in-Choice.ensures))

pub returns-in-Prefix : goal.returns-in-Prefix
returns-in-Prefix t c = prefix_answers _ _ _ _ _ _ (ap expression_of c.in-Prefix.is) c.prefix_rates.ensures

pub choice_rates-requires-clause-left_fine : goal.choice_rates-requires-clause-left_fine
choice_rates-requires-clause-left_fine t c =
    let can = choice_can_open _ _ _ _ _ (ap expression_of c.in-Choice.is) c.requires in
    answered_fine _ _ _ c.in_ok-left-in-Choice.left can.left (rw c.deref.ensures at c.in_ok-left-in-Choice.ensures)

pub choice_rates-requires-clause-right_fine : goal.choice_rates-requires-clause-right_fine
choice_rates-requires-clause-right_fine t c =
    let can = choice_can_open _ _ _ _ _ (ap expression_of c.in-Choice.is) c.requires in
    answered_fine _ _ _ c.in_ok-right-in-Choice.right can.right (rw c.deref-in-Choice.ensures at c.in_ok-right-in-Choice.ensures)

pub returns-in_ok-right-in-Choice : goal.returns-in_ok-right-in-Choice
returns-in_ok-right-in-Choice t c =
    choice_answers _ _ _ _ c.in_ok-left-in-Choice.left c.in_ok-right-in-Choice.right _ (ap expression_of c.in-Choice.is)
    (rw c.deref.ensures at c.in_ok-left-in-Choice.ensures)
    (rw c.deref-in-Choice.ensures at c.in_ok-right-in-Choice.ensures)
    c.choice_rates.ensures

pub returns-in-Constant : goal.returns-in-Constant
returns-in-Constant t c = const_answers _ _ _ _ _ (ap expression_of c.in-Constant.is) c.body.ensures c.component_rates-in-Constant.ensures
