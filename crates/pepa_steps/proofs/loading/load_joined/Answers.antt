use Rattle.std.proofs.lemmas.Result.{err_from_is_err_and}
use Rattle.pepa_steps.proofs.EndLists.{coop_rates_end}
use Rattle.pepa_steps.proofs.loading.load_joined.Goals as goal

pub returns-in_err-rates-clause-answers : goal.returns-in_err-rates-clause-answers
returns-in_err-rates-clause-answers c = λ front us vs ends.
    let p = err_from_is_err_and c.from_residual.result c.from_residual.ensures.1 in
    rw (p.1, p.2) (coop_rates_end c.args.types.now front us vs c.args.left c.args.right c.args.buffers.now c.args.buffers.now _ c.in_err-rates.ensures)
