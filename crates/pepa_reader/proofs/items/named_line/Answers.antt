use Rattle.std.proofs.lemmas.Result.{err_from_is_err_and}
use Rattle.token_grammar.specs.Cursors.{kinds_of}
use Rattle.token_grammar.specs.SmallNames.{Plain}
use Rattle.token_grammar.proofs.Spelled.{spelled_append}
use Rattle.pepa_reader.proofs.LineReading.{no_equals}
use Rattle.pepa_reader.proofs.items.named_line.Goals as goal

pub returns-in_err-start : goal.returns-in_err-start
returns-in_err-start c =
    let p = err_from_is_err_and c.from_residual.result c.from_residual.ensures.1 in
    rw (p.1, p.2) (no_equals (kinds_of c.args.text.now) c.args.at c.args.equals c.in_err-start.field-0.0 c.requires c.in_err-start.ensures)

pub rate_line-requires : goal.rate_line-requires
rate_line-requires c = (Plain, spelled_append c.requires.spelled c.in_ok-start.ensures.spelled)
