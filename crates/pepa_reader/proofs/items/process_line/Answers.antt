use Rattle.std.proofs.lemmas.Result.{err_from_is_err_and}
use Rattle.token_grammar.specs.Cursors.{kinds_of}
use Rattle.pepa_reader.proofs.LineReading.{line_process_fails, process_line_stays, is_process_line}
use Rattle.pepa_reader.proofs.items.process_line.Goals as goal

pub returns-in_err-body : goal.returns-in_err-body
returns-in_err-body c =
    let p = err_from_is_err_and c.from_residual.result c.from_residual.ensures.1 in
    rw (p.1, p.2) (line_process_fails (kinds_of c.args.text.now) c.args.at c.args.start c.in_err-body.field-0.0 c.requires c.in_err-body.ensures)

pub returns-in_err-next : goal.returns-in_err-next
returns-in_err-next c =
    let p = err_from_is_err_and c.from_residual-in_err-next.result c.from_residual-in_err-next.ensures.1 in
    rw (p.1, p.2) (process_line_stays (kinds_of c.args.text.now) c.args.at c.args.start c.in_ok-body.field-0 c.in_err-next.field-0.0 c.requires c.in_ok-body.ensures.0 c.in_ok-body.ensures.1 c.in_err-next.ensures)

pub returns : goal.returns
returns c =
    is_process_line (kinds_of c.args.text.now) c.args.at c.args.start c.in_ok-next.next c.in_ok-body.field-0 c.requires c.in_ok-body.ensures.0 c.in_ok-next.ensures
