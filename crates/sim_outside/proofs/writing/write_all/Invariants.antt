use Rattle.std.proofs.Common.{◌≡◌, length, take, drop, ◌-◌, ◌≤◌}
use Rattle.sim_outside.specs.Sink.{GrowsBy}
use Rattle.sim_outside.proofs.Chains.{WroteTo}
use Rattle.sim_outside.proofs.writing.write_all.Given as goal

-- what was taken so far is a front of the piece, by writes alone that were offered the rest each time, and the sink has grown by it
abbrev pub invariant-loop-taken : goal.invariant-loop-taken
invariant-loop-taken g l = record {
  in_piece : l.taken ≤ length l.piece;
  grown : GrowsBy (g.K.Sink.written l.fn.sink) (g.K.Sink.written l.sink) (take l.taken l.piece);
  wrote : WroteTo g.K.Sink.one_write l.fn.sink l.piece l.sink (drop l.taken l.piece);
  none_failed : g.K.Sink.faults l.sink ≡ g.K.Sink.faults l.fn.sink;
}

abbrev pub decreases-loop-taken : goal.decreases-loop-taken
decreases-loop-taken g l = length l.piece - l.taken
