use Rattle.std.proofs.lemmas.Result.{err_from_is_err_and}
use Rattle.token_grammar.specs.Cursors.{kinds_of}
use Rattle.pepa_reader.proofs.ProcessReading.{no_comma, activity_rate_fails, activity_stays_open, no_dot}
use Rattle.pepa_reader.proofs.processes.activity.Goals as goal

pub returns-in_err-start : goal.returns-in_err-start
returns-in_err-start c =
    let p = err_from_is_err_and c.from_residual.result c.from_residual.ensures.1 in
    rw (p.1, p.2) (no_comma (kinds_of c.args.text.now) c.args.at c.args.comma c.requires.0 c.in_err-start.field-0.0 c.requires.1 c.in_err-start.ensures)

pub returns-in_err-rate : goal.returns-in_err-rate
returns-in_err-rate c =
    let p = err_from_is_err_and c.from_residual-in_err-rate.result c.from_residual-in_err-rate.ensures.1 in
    rw (p.1, p.2) (activity_rate_fails (kinds_of c.args.text.now) c.args.at c.args.comma c.in_ok-start.start c.requires.0 c.in_err-rate.field-0.0 c.requires.1 c.in_ok-start.ensures c.in_err-rate.ensures)

pub returns-in_err-dot : goal.returns-in_err-dot
returns-in_err-dot c =
    let p = err_from_is_err_and c.from_residual-in_err-dot.result c.from_residual-in_err-dot.ensures.1 in
    rw (p.1, p.2) (activity_stays_open (kinds_of c.args.text.now) c.args.at c.args.comma c.in_ok-start.start c.requires.0 c.in_ok-rate.field-0 c.in_err-dot.field-0.0 c.requires.1 c.in_ok-start.ensures c.in_ok-rate.ensures c.in_err-dot.ensures)

pub returns-in_err-next : goal.returns-in_err-next
returns-in_err-next c =
    let p = err_from_is_err_and c.from_residual-in_err-next.result c.from_residual-in_err-next.ensures.1 in
    rw (p.1, p.2) (no_dot (kinds_of c.args.text.now) c.args.at c.args.comma c.in_ok-start.start c.in_ok-dot.dot c.requires.0 c.in_ok-rate.field-0 c.in_err-next.field-0.0 c.requires.1 c.in_ok-start.ensures c.in_ok-rate.ensures c.in_ok-dot.ensures c.in_err-next.ensures)
