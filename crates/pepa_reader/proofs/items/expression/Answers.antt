use Rattle.token_grammar.specs.Cursors.{kinds_of}
use Rattle.pepa_reader.proofs.ProbeLineReading.{expression_is_read, expression_halts}
use Rattle.pepa_reader.proofs.items.expression.Goals as goal

pub returns-in-Ok : goal.returns-in-Ok
unfolding kinds_of
returns-in-Ok c = expression_is_read c.args.text.now.input.now c.args.text.now.tokens.now c.args.at c.in-Ok.read c.in-Ok.ensures

pub returns-in-Err-Expected : goal.returns-in-Err-Expected
unfolding kinds_of
returns-in-Err-Expected c = expression_halts c.args.text.now.input.now c.args.text.now.tokens.now c.args.at c.in-Err-Expected.i (rw c.in-Err-Expected.field-0-is at c.in-Err-Expected.ensures)
