use Rattle.std.proofs.Common.{refl, arith}
use Rattle.std.proofs.lemmas.Result.{err_from_is_err_and}
use Rattle.pepa_steps.proofs.EndLists.{beside_rates_end, beside_long, beside_makes}
use Rattle.pepa_steps.proofs.loading.load_beside.Goals as goal

pub returns-in_err-rates-clause-answers : goal.returns-in_err-rates-clause-answers
returns-in_err-rates-clause-answers c = λ front us vs ends.
    let p = err_from_is_err_and c.from_residual.result c.from_residual.ensures.1 in
    rw (p.1, p.2) (beside_rates_end front us vs c.args.left c.args.right c.args.buffers.now c.args.buffers.now _ c.in_err-rates.ensures)

pub returns-then-len-start-gt-MOST_STEPS-clause-answers : goal.returns-then-len-start-gt-MOST_STEPS-clause-answers
returns-then-len-start-gt-MOST_STEPS-clause-answers c = λ front us vs ends.
    beside_long front us vs c.args.left c.args.right c.args.buffers.now ends c.in_ok-rates.rates c.in_ok-rates.ensures c.args.buffers.now (omega (arith, c.len.ensures, c.if-len-start-gt-MOST_STEPS.true))

pub returns-clause-answers : goal.returns-clause-answers
returns-clause-answers c = λ front us vs ends.
    beside_makes front us vs c.args.left c.args.right c.args.buffers.now ends c.in_ok-rates.rates c.in_ok-rates.ensures c.requires
    (record {
      entries = c.args.buffers.now.entries;
      origins = c.args.buffers.now.origins;
      marks = c.push_mark.new.marks;
      mark = c.args.buffers.now.mark;
      scratch = c.args.buffers.now.scratch;
      kept = c.args.buffers.now.kept;
    })
    c.in_ok-mark.mark (omega (arith, c.len.ensures, c.if-len-start-gt-MOST_STEPS.false)) refl refl c.in_ok-mark.ensures.place c.in_ok-mark.ensures.pushed
