use Rattle.std.proofs.lemmas.Result.{err_from_is_err_and}
use Rattle.token_grammar.specs.Cursors.{kinds_of}
use Rattle.token_grammar.proofs.Spelled.{spelled_nothing, spelled_append}
use Rattle.probe_reader.specs.ProbeMachine.{BehindBrace, BehindLeast, BehindRangeComma, BehindMost}
use Rattle.probe_reader.proofs.SuffixReading.{range_fails}
use Rattle.probe_reader.proofs.suffixes.range.Goals as goal

pub returns-in_err-comma : goal.returns-in_err-comma
returns-in_err-comma c =
    let p = err_from_is_err_and c.from_residual.result c.from_residual.ensures.1 in
    rw (p.1, p.2) (range_fails (kinds_of c.args.text.now) c.args.at c.args.at BehindBrace c.in_err-comma.field-0.0 tt (spelled_nothing (kinds_of c.args.text.now) c.args.at) c.in_err-comma.ensures)

pub returns-in_err-most : goal.returns-in_err-most
returns-in_err-most c =
    let p = err_from_is_err_and c.from_residual-in_err-most.result c.from_residual-in_err-most.ensures.1 in
    rw (p.1, p.2) (range_fails (kinds_of c.args.text.now) c.args.at c.in_ok-comma.comma BehindLeast c.in_err-most.field-0.0 tt c.in_ok-comma.ensures.spelled c.in_err-most.ensures)

pub returns-in_err-brace : goal.returns-in_err-brace
returns-in_err-brace c =
    let p = err_from_is_err_and c.from_residual-in_err-brace.result c.from_residual-in_err-brace.ensures.1 in
    rw (p.1, p.2) (range_fails (kinds_of c.args.text.now) c.args.at c.in_ok-most.most BehindRangeComma c.in_err-brace.field-0.0 tt (spelled_append c.in_ok-comma.ensures.spelled c.in_ok-most.ensures.spelled) c.in_err-brace.ensures)

pub returns-in_err-next : goal.returns-in_err-next
returns-in_err-next c =
    let p = err_from_is_err_and c.from_residual-in_err-next.result c.from_residual-in_err-next.ensures.1 in
    rw (p.1, p.2) (range_fails (kinds_of c.args.text.now) c.args.at c.in_ok-brace.brace BehindMost c.in_err-next.field-0.0 tt (spelled_append c.in_ok-comma.ensures.spelled (spelled_append c.in_ok-most.ensures.spelled c.in_ok-brace.ensures.spelled)) c.in_err-next.ensures)
