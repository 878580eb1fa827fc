use Rattle.std.proofs.lemmas.Result.{err_from_is_err_and}
use Rattle.token_grammar.specs.Cursors.{kinds_of}
use Rattle.pepa_reader.proofs.LineReading.{line_rate_fails, rate_line_stays, is_rate_line}
use Rattle.pepa_reader.proofs.items.rate_line.Goals as goal

pub returns-in_err-rate : goal.returns-in_err-rate
returns-in_err-rate c =
    let p = err_from_is_err_and c.from_residual.result c.from_residual.ensures.1 in
    rw (p.1, p.2) (line_rate_fails (kinds_of c.args.text.now) c.args.at c.args.start c.requires.0 c.in_err-rate.field-0.0 c.requires.1 c.in_err-rate.ensures)

pub returns-in_err-next : goal.returns-in_err-next
returns-in_err-next c =
    let p = err_from_is_err_and c.from_residual-in_err-next.result c.from_residual-in_err-next.ensures.1 in
    rw (p.1, p.2) (rate_line_stays (kinds_of c.args.text.now) c.args.at c.args.start c.requires.0 c.in_ok-rate.field-0 c.in_err-next.field-0.0 c.requires.1 c.in_ok-rate.ensures c.in_err-next.ensures)

pub returns : goal.returns
returns c = is_rate_line (kinds_of c.args.text.now) c.args.at c.args.start c.in_ok-next.next c.requires.0 c.in_ok-rate.field-0 c.requires.1 c.in_ok-rate.ensures c.in_ok-next.ensures
