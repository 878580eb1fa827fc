use Rattle.std.proofs.lemmas.Result.{err_from_is_err_and}
use Rattle.token_grammar.specs.Cursors.{kinds_of}
use Rattle.pepa_reader.proofs.WordReading.{sharing_fails, is_sharing}
use Rattle.pepa_reader.proofs.words.cooperation.Goals as goal

pub returns-in_err-read : goal.returns-in_err-read
returns-in_err-read c =
    let p = err_from_is_err_and c.from_residual.result c.from_residual.ensures.1 in
    rw (p.1, p.2) (sharing_fails (kinds_of c.args.text.now) c.args.at c.in-Some-after.inside c.in_err-read.field-0.0 c.in-Some-after.ensures c.in_err-read.ensures)

pub returns : goal.returns
returns c = is_sharing (kinds_of c.args.text.now) c.args.at c.in-Some-after.inside c.in_ok-read.read c.in-Some-after.ensures c.in_ok-read.ensures
