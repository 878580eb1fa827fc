use Rattle.std.proofs.lemmas.Result.{err_from_is_err_and}
use Rattle.token_grammar.specs.Cursors.{kinds_of}
use Rattle.probe_reader.proofs.SuffixReading.{label_fails, reset_fails, repeat_fails, is_label, is_reset, is_range}
use Rattle.probe_reader.proofs.suffixes.suffix.Goals as goal

pub returns-in_err-next : goal.returns-in_err-next
returns-in_err-next c =
    let p = err_from_is_err_and c.from_residual.result c.from_residual.ensures.1 in
    rw (p.1, p.2) (label_fails (kinds_of c.args.text.now) c.args.at c.in-Some-after.label c.in_err-next.field-0.0 c.in-Some-after.ensures c.in_err-next.ensures)

pub returns-in-Some-after : goal.returns-in-Some-after
returns-in-Some-after c = is_label (kinds_of c.args.text.now) c.args.at c.in-Some-after.label c.in_ok-next.next c.in_ok-next.ensures.0 c.in-Some-after.ensures c.in_ok-next.ensures.1

pub returns-in_err-next-2 : goal.returns-in_err-next-2
returns-in_err-next-2 c =
    let p = err_from_is_err_and c.from_residual-in_err-next-2.result c.from_residual-in_err-next-2.ensures.1 in
    rw (p.1, p.2) (reset_fails (kinds_of c.args.text.now) c.args.at c.in-Some-after-2.letter c.in_err-next-2.field-0.0 c.in-Some-after-2.ensures c.in_err-next-2.ensures)

pub returns-in-Some-after-2 : goal.returns-in-Some-after-2
returns-in-Some-after-2 c = is_reset (kinds_of c.args.text.now) c.args.at c.in-Some-after-2.letter c.in_ok-next-2.next c.in_ok-next-2.ensures.0 c.in-Some-after-2.ensures c.in_ok-next-2.ensures.1

pub returns-in_err-read : goal.returns-in_err-read
returns-in_err-read c =
    let p = err_from_is_err_and c.from_residual-in_err-read.result c.from_residual-in_err-read.ensures.1 in
    rw (p.1, p.2) (repeat_fails (kinds_of c.args.text.now) c.args.at c.in-Some-after-3.least c.in_err-read.field-0.0 c.in-Some-after-3.ensures c.in_err-read.ensures)

pub returns-in-Some-after-3 : goal.returns-in-Some-after-3
returns-in-Some-after-3 c = is_range (kinds_of c.args.text.now) c.args.at c.in-Some-after-3.least c.in_ok-read.read c.in-Some-after-3.ensures c.in_ok-read.ensures.0 c.in_ok-read.ensures.1
