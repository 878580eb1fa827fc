use Rattle.std.proofs.lemmas.Result.{err_from_is_err_and}
use Rattle.token_grammar.specs.Cursors.{kinds_of}
use Rattle.pepa_reader.proofs.ProbeLineReading.{target_fails, expression_fails, probe_line_stays, is_probe_line}
use Rattle.pepa_reader.proofs.items.probe_line.Goals as goal

pub returns-in_err-target : goal.returns-in_err-target
returns-in_err-target c =
    let p = err_from_is_err_and c.from_residual.result c.from_residual.ensures.1 in
    rw (p.1, p.2) (target_fails (kinds_of c.args.text.now) c.args.at c.args.start c.in_err-target.field-0.0 c.requires.probe c.in_err-target.ensures)

pub returns-in_err-expr : goal.returns-in_err-expr
returns-in_err-expr c =
    let p = err_from_is_err_and c.from_residual-in_err-expr.result c.from_residual-in_err-expr.ensures.1 in
    rw (p.1, p.2) (expression_fails (kinds_of c.args.text.now) c.args.at c.args.start c.in_ok-target.field-0 c.in_ok-target.ensures.0 c.in_err-expr.field-0.0 c.requires.probe c.requires.line c.in_ok-target.ensures.1 c.in_err-expr.ensures)

pub returns-in_err-next : goal.returns-in_err-next
returns-in_err-next c =
    let p = err_from_is_err_and c.from_residual-in_err-next.result c.from_residual-in_err-next.ensures.1 in
    rw (p.1, p.2) (probe_line_stays (kinds_of c.args.text.now) c.args.at c.args.start c.in_ok-target.field-0 c.in_ok-target.ensures.0 c.in_ok-expr.field-0 c.in_err-next.field-0.0 c.requires.probe c.in_ok-target.ensures.1 c.in_ok-expr.ensures c.in_err-next.ensures)

pub returns : goal.returns
returns c = is_probe_line (kinds_of c.args.text.now) c.args.at c.args.start c.in_ok-next.next c.in_ok-target.field-0 c.in_ok-target.ensures.0 c.in_ok-expr.field-0 c.requires.probe c.in_ok-target.ensures.1 c.in_ok-expr.ensures c.in_ok-next.ensures
