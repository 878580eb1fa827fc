use Rattle.std.proofs.Common.{ap}
use Rattle.std.proofs.lemmas.Result.{err_from_is_err_and}
use Rattle.pepa_model.specs.Terms.{term_of}
use Rattle.pepa_steps.proofs.Loads.{left_end, right_end, both_ready, coop_answers, inner_end, inner_fine, hide_answers}
use Rattle.pepa_steps.proofs.loading.+load_part.Goals as goal

pub returns-in_err-left-in-Coop-clause-answers : goal.returns-in_err-left-in-Coop-clause-answers
returns-in_err-left-in-Coop-clause-answers t c =
    let p = err_from_is_err_and c.from_residual.result c.from_residual.ensures.1 in
    rw (p.1, p.2)
    (left_end c.args.model.now c.recall_invariant.ensures _ _ _ _ (ap term_of c.in-Coop.is) c.requires.of_model _ (rw c.deref.ensures at c.in_err-left-in-Coop.ensures.answers))

pub returns-in_err-right-in-Coop-clause-answers : goal.returns-in_err-right-in-Coop-clause-answers
returns-in_err-right-in-Coop-clause-answers t c =
    let p = err_from_is_err_and c.from_residual-in_err-right-in-Coop.result c.from_residual-in_err-right-in-Coop.ensures.1 in
    rw (p.1, p.2)
    (right_end c.args.model.now c.recall_invariant.ensures _ _ _ _ (ap term_of c.in-Coop.is) c.requires.of_model c.args.buffers.now c.load_part.new.buffers c.in_ok-left-in-Coop.left
    (rw c.deref.ensures at c.in_ok-left-in-Coop.ensures.answers) _ (rw c.deref-in-Coop.ensures at c.in_err-right-in-Coop.ensures.answers))

pub load_cooperation-requires-clause-ready : goal.load_cooperation-requires-clause-ready
load_cooperation-requires-clause-ready t c =
    both_ready c.args.model.now c.recall_invariant.ensures _ _ _ _ (ap term_of c.in-Coop.is) c.requires.of_model c.args.buffers.now c.load_part.new.buffers c.in_ok-left-in-Coop.left
    (rw c.deref.ensures at c.in_ok-left-in-Coop.ensures.answers) c.load_part-in-Coop.new.buffers c.in_ok-right-in-Coop.right (rw c.deref-in-Coop.ensures at c.in_ok-right-in-Coop.ensures.answers)
    c.set.result.now c.set.ensures.stored

pub returns-in_ok-right-in-Coop-clause-answers : goal.returns-in_ok-right-in-Coop-clause-answers
returns-in_ok-right-in-Coop-clause-answers t c =
    coop_answers c.args.model.now c.recall_invariant.ensures _ _ _ _ (ap term_of c.in-Coop.is) c.requires.of_model c.args.buffers.now c.load_part.new.buffers c.in_ok-left-in-Coop.left
    (rw c.deref.ensures at c.in_ok-left-in-Coop.ensures.answers) c.load_part-in-Coop.new.buffers c.in_ok-right-in-Coop.right (rw c.deref-in-Coop.ensures at c.in_ok-right-in-Coop.ensures.answers)
    c.set.result.now c.set.ensures.stored c.load_cooperation.new.buffers c.load_cooperation.result c.load_cooperation.ensures.answers

pub returns-in_err-inner-in-Hide-clause-answers : goal.returns-in_err-inner-in-Hide-clause-answers
returns-in_err-inner-in-Hide-clause-answers t c =
    let p = err_from_is_err_and c.from_residual-in_err-inner-in-Hide.result c.from_residual-in_err-inner-in-Hide.ensures.1 in
    rw (p.1, p.2)
    (inner_end c.args.model.now c.recall_invariant.ensures _ _ _ (ap term_of c.in-Hide.is) c.requires.of_model _ (rw c.deref-in-Hide.ensures at c.in_err-inner-in-Hide.ensures.answers))

pub load_hiding-requires-clause-fine : goal.load_hiding-requires-clause-fine
load_hiding-requires-clause-fine t c =
    inner_fine c.args.model.now c.recall_invariant.ensures _ _ _ (ap term_of c.in-Hide.is) c.requires.of_model c.args.buffers.now c.load_part-in-Hide.new.buffers c.in_ok-inner-in-Hide.inner
    (rw c.deref-in-Hide.ensures at c.in_ok-inner-in-Hide.ensures.answers) c.set-in-Hide.result.now c.set-in-Hide.ensures.stored

pub returns-in_ok-inner-in-Hide-clause-answers : goal.returns-in_ok-inner-in-Hide-clause-answers
returns-in_ok-inner-in-Hide-clause-answers t c =
    hide_answers c.args.model.now c.recall_invariant.ensures _ _ _ (ap term_of c.in-Hide.is) c.requires.of_model c.args.buffers.now c.load_part-in-Hide.new.buffers c.in_ok-inner-in-Hide.inner
    (rw c.deref-in-Hide.ensures at c.in_ok-inner-in-Hide.ensures.answers) c.set-in-Hide.result.now c.set-in-Hide.ensures.stored
    c.load_hiding.new.buffers c.load_hiding.result c.load_hiding.ensures.answers
