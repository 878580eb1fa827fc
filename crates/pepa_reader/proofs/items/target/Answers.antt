use Rattle.std.proofs.Common.{refl}
use Rattle.std.proofs.lemmas.Result.{err_from_is_err_and}
use Rattle.token_grammar.specs.Cursors.{kinds_of}
use Rattle.token_grammar.proofs.Spelled.{spelled_nothing, spelled_append}
use Rattle.pepa_reader.specs.Grammar.{Overall, OnConstant}
use Rattle.pepa_reader.proofs.ProbeLineReading.{no_colons}
use Rattle.pepa_reader.proofs.items.target.Goals as goal

pub returns-in_default : goal.returns-in_default
returns-in_default c = (Overall, (spelled_nothing (kinds_of c.args.text.now) c.args.at, refl, c.in_default.ensures))

pub returns-in_err-next : goal.returns-in_err-next
returns-in_err-next c =
    let p = err_from_is_err_and c.from_residual.result c.from_residual.ensures.1 in
    rw (p.1, p.2) (no_colons (kinds_of c.args.text.now) c.args.at c.in-Some.colons c.in_err-next.field-0.0 c.in-Some.ensures c.in_err-next.ensures)

pub returns : goal.returns
returns c = (OnConstant, (spelled_append c.in-Some.ensures.spelled c.in_ok-next.ensures.spelled, refl, tt))
