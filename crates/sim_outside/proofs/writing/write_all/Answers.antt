use Rattle.std.proofs.Common.{arith, ℕ, List, ◌<◌, length, length-drop, drop}
use Rattle.std.proofs.lemmas.Result.{err_from_is_err_and}
use Rattle.std.proofs.lemmas.Grind.{common_steps}
use Rattle.std.proofs.lemmas.List.{take_rest}
use Rattle.sim_outside.proofs.Device.{GrowsBy-behind}
use Rattle.sim_outside.proofs.Chains.{wrote_more, wrote_whole}
use Rattle.sim_outside.proofs.writing.write_all.Goals as goal

some_left : (piece : List ℕ) (taken : ℕ) → taken < length piece → 0 < length (drop taken piece)
some_left piece taken h = simp length-drop (omega (arith, h))

pub loop-taken-preserved : goal.loop-taken-preserved
loop-taken-preserved g c = record {
  in_piece = let h = c.in_ok-taken.ensures.count in grind (arith, common_steps);
  grown = GrowsBy-behind _ _ _ _ _ _ c.loop-taken.invariant.grown (rw take_rest at c.in_ok-taken.ensures.bytes);
  wrote = wrote_more g.K.Sink.one_write c.args.sink.now c.args.piece.now c.loop-taken.sink c.loop-taken.taken c.in_ok-taken.field-0 c.write.new.self c.loop-taken.invariant.wrote (some_left c.args.piece.now c.loop-taken.taken (omega arith)) (rw take_rest at c.in_ok-taken.ensures.called);
  none_failed = let h = c.in_ok-taken.ensures.counted in cc;
}

pub returns-in_err-taken-clause-writes : goal.returns-in_err-taken-clause-writes
returns-in_err-taken-clause-writes g c =
    let p = err_from_is_err_and c.from_residual.result c.from_residual.ensures.1 in
    let chain = c.loop-taken.invariant.wrote in
    let some = some_left c.args.piece.now c.loop-taken.taken (omega arith) in
    rw p.1 (chain.0, c.loop-taken.sink, drop c.loop-taken.taken c.args.piece.now, chain.1, some, rw take_rest at c.in_err-taken.ensures.called)

pub returns-clause-writes : goal.returns-clause-writes
returns-clause-writes g c =
    wrote_whole g.K.Sink.one_write c.args.sink.now c.args.piece.now c.loop-taken.sink c.loop-taken.taken c.loop-taken.invariant.wrote (omega arith)
