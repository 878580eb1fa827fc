use Rattle.token_grammar.specs.Cursors.{kinds_of}
use Rattle.probe_reader.proofs.ExpressionReading.{expression_read, expression_missing}
use Rattle.probe_reader.proofs.reading.read_probe.Goals as goal

pub returns-in-Ok : goal.returns-in-Ok
unfolding kinds_of
returns-in-Ok c = expression_read c.args.input.now c.args.tokens.now c.split_at.result.0.now c.args.at c.args.limit c.in-Ok.read c.split_at.ensures.front c.in-Ok.ensures

pub returns-in-Err-Fault : goal.returns-in-Err-Fault
unfolding kinds_of
returns-in-Err-Fault c =
    expression_missing c.args.input.now c.args.tokens.now c.split_at.result.0.now c.args.at c.args.limit c.in-Err-Fault.next c.split_at.ensures.front (rw c.in-Err-Fault.field-0-is at c.in-Err-Fault.ensures)
