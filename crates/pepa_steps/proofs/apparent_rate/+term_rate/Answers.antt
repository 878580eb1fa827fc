-- A term answers for its tree from the answers for the trees of its parts.
use Rattle.std.proofs.Common.{ap, refl}
use Rattle.std.proofs.lemmas.Result.{err_from_is_err_and}
use Rattle.pepa_model.specs.Terms.{term_of}
use Rattle.pepa_steps.proofs.Opening.{leaf_can_open}
use Rattle.pepa_steps.proofs.StateApparent.{leaf_answers, left_fault, right_fault, coop_answers, inner_fault, hide_answers}
use Rattle.pepa_steps.proofs.apparent_rate.+term_rate.Goals as goal

pub component_rate-requires : goal.component_rate-requires
component_rate-requires t c = leaf_can_open c.args.model.now c.recall_invariant.ensures _ _ c.leaf.ensures

pub returns-in_err-left-in-Coop : goal.returns-in_err-left-in-Coop
returns-in_err-left-in-Coop t c =
    let p = err_from_is_err_and c.from_residual.result c.from_residual.ensures.1 in
    rw (p.1, p.2) (left_fault _ c.args.model.now _ _ _ _ _ (ap term_of c.in-Coop.is) (rw c.deref.ensures at c.in_err-left-in-Coop.ensures))

pub returns-in_err-right-in-Coop : goal.returns-in_err-right-in-Coop
returns-in_err-right-in-Coop t c =
    let p = err_from_is_err_and c.from_residual-in_err-right-in-Coop.result c.from_residual-in_err-right-in-Coop.ensures.1 in
    rw (p.1, p.2)
    (right_fault _ c.args.model.now _ _ _ _ _ _ (ap term_of c.in-Coop.is)
    (rw c.deref.ensures at c.in_ok-left-in-Coop.ensures)
    (rw c.deref-in-Coop.ensures at c.in_err-right-in-Coop.ensures))

pub returns-in_err-inner-in-Hide : goal.returns-in_err-inner-in-Hide
returns-in_err-inner-in-Hide t c =
    let p = err_from_is_err_and c.from_residual-in_err-inner-in-Hide.result c.from_residual-in_err-inner-in-Hide.ensures.1 in
    rw (p.1, p.2) (inner_fault _ c.args.model.now _ _ _ _ (ap term_of c.in-Hide.is) (rw c.deref-in-Hide.ensures at c.in_err-inner-in-Hide.ensures))

pub returns-in-Leaf : goal.returns-in-Leaf
returns-in-Leaf t c = leaf_answers _ c.args.model.now _ _ _ _ (ap term_of c.in-Leaf.is) c.leaf.ensures c.component_rate.ensures

pub returns-in_ok-right-in-Coop : goal.returns-in_ok-right-in-Coop
returns-in_ok-right-in-Coop t c =
    coop_answers _ c.args.model.now _ _ _ _ _ _ _ _ (ap term_of c.in-Coop.is) c.set.ensures.stored
    (rw c.deref.ensures at c.in_ok-left-in-Coop.ensures)
    (rw c.deref-in-Coop.ensures at c.in_ok-right-in-Coop.ensures)
    c.rate_of_cooperation.ensures

pub returns-in_ok-inner-in-Hide : goal.returns-in_ok-inner-in-Hide
returns-in_ok-inner-in-Hide t c =
    hide_answers _ c.args.model.now _ _ _ c.set-in-Hide.result.now _ _ _ (ap term_of c.in-Hide.is) c.set-in-Hide.ensures.stored refl
    (rw c.deref-in-Hide.ensures at c.in_ok-inner-in-Hide.ensures) c.rate_of_hiding.ensures
