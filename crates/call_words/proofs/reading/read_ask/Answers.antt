use Rattle.std.proofs.Common.{ap, map, string_bytes}
use Rattle.std.proofs.lemmas.Result.{err_from_is_err_and}
use Rattle.call_words.proofs.GivenValues.{ask_answers, no_ask}
use Rattle.call_words.proofs.reading.read_ask.Goals as goal

pub returns-in_err-given : goal.returns-in_err-given
returns-in_err-given c =
    let p = err_from_is_err_and c.from_residual.result c.from_residual.ensures.1 in
    let names = ap (map (λ name. name.now)) c.as_slice.ensures in
    rw (p.1, p.2) (λ u. no_ask _ names (map string_bytes c.args.words.now) (c.in_err-given.ensures u))

pub returns : goal.returns
returns c =
    let names = ap (map (λ name. name.now)) c.as_slice.ensures in
    ask_answers _ names (map string_bytes c.args.words.now) _ c.in_ok-given.ensures c.ask_of.result c.ask_of.ensures
