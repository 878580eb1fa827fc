use Rattle.std.proofs.Common.{◌+◌, arith}
use Rattle.token_grammar.specs.Cursors.{kinds_of}
use Rattle.pepa_reader.proofs.FrontReading.{item_in_front, stop_in_front, fault_in_front}
use Rattle.pepa_reader.proofs.FaultReading.{item_fails}
use Rattle.pepa_reader.proofs.file.item_at.Goals as goal

pub cause-requires-clause-within : goal.cause-requires-clause-within
unfolding kinds_of
cause-requires-clause-within c =
    (stop_in_front c.args.input.now c.args.tokens.now c.split_at.result.0.now c.args.at (c.args.at + c.min-room.result) c.in-Err-Fault.i c.split_at.ensures.front (omega arith) (omega (arith, c.min-room.ensures)) c.requires.within c.requires.ended (rw c.in-Err-Fault.field-0-is at c.in-Err-Fault.ensures)).1

pub returns-in-Ok : goal.returns-in-Ok
unfolding kinds_of
returns-in-Ok c =
    item_in_front c.args.input.now c.args.tokens.now c.split_at.result.0.now c.args.at (c.args.at + c.min-room.result) c.in-Ok.read c.split_at.ensures.front (omega arith) (omega (arith, c.min-room.ensures)) (omega (arith, c.min-room.ensures)) c.in-Ok.ensures

pub returns-in-Err-Fault : goal.returns-in-Err-Fault
unfolding kinds_of
returns-in-Err-Fault c =
    item_fails c.args.input.now c.args.tokens.now c.args.at c.cause.result
    (fault_in_front c.args.input.now c.args.tokens.now c.split_at.result.0.now c.args.at (c.args.at + c.min-room.result) c.in-Err-Fault.i c.cause.result c.split_at.ensures.front (omega (arith, c.min-room.ensures)) c.requires.within c.requires.ended (rw c.in-Err-Fault.field-0-is at c.in-Err-Fault.ensures) c.cause.ensures)
