use Rattle.std.proofs.Common.{take, vec_len, ◌+◌, ◌-◌, ◌≡◌, ◌≤◌}
use Rattle.sim_outside.specs.Source.{Takes}
use Rattle.sim_outside.proofs.Chains.{ReadTo}
use Rattle.sim_outside.proofs.reading.read_all.Given as goal

-- the front of the buffer is what was taken from the source so far, by reads alone that were given the rest of it each time
abbrev pub invariant-loop-filled : goal.invariant-loop-filled
invariant-loop-filled g l = record {
  room : vec_len l.buffer ≡ l.limit + 1;
  in_room : l.filled ≤ l.limit + 1;
  taken : Takes (g.S.Source.left l.fn.source) (g.S.Source.left l.source) (take l.filled l.buffer.items);
  read : ReadTo g.S.Source.one_read l.fn.source (l.limit + 1) l.source (l.limit + 1 - l.filled) (take l.filled l.buffer.items);
  none_failed : g.S.Source.faults l.source ≡ g.S.Source.faults l.fn.source;
}

abbrev pub decreases-loop-filled : goal.decreases-loop-filled
decreases-loop-filled g l = l.limit + 1 - l.filled
