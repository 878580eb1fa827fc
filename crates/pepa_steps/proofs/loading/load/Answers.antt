use Rattle.std.proofs.lemmas.Result.{err_from_is_err_and}
use Rattle.pepa_model.specs.Terms.{term_of}
use Rattle.pepa_steps.proofs.Listed.{list_found, list_end}
use Rattle.pepa_steps.proofs.loading.load.Goals as goal

pub returns-in_err-found-clause-list : goal.returns-in_err-found-clause-list
returns-in_err-found-clause-list c = λ state stands.
    let p = err_from_is_err_and c.from_residual.result c.from_residual.ensures.1 in
    rw (p.1, p.2) (list_end c.args.model.now c.recall_invariant.ensures (term_of c.args.term.now) _ c.in_err-found.ensures.answers state stands c.load_part.new.buffers.entries.items)

pub returns-clause-list : goal.returns-clause-list
returns-clause-list c = λ state stands. list_found c.args.model.now c.recall_invariant.ensures (term_of c.args.term.now) _ c.load_part.new.buffers c.in_ok-found.found c.in_ok-found.ensures.answers c.clear.ensures.items state stands
