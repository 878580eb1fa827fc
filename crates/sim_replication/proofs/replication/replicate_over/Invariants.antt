use Rattle.std.proofs.Common.{◌≡◌, ◌+◌, ◌*◌, ◌^◌, ◌<◌, ◌≤◌}
use Rattle.sim_replication.proofs.UnderWay.{IsUnderWay}
use Rattle.sim_replication.proofs.replication.replicate_over.Given as goal

abbrev pub invariant-loop-jump : goal.invariant-loop-jump
invariant-loop-jump g l = record {
  later : g.S.Space.later l.fn.space l.space;
  same : g.N.Numbers.at l.from ≡ g.N.Numbers.at l.fn.from;
  place : g.N.Numbers.place l.from ≤ 320 * l._jump;
  in_time : l.time < 2 ^ 63;
  under_way : IsUnderWay (g.S.Space.model l.fn.space) l.order (g.N.Numbers.at l.fn.from) (g.S.Space.stands l.space l.at) (g.S.Space.seen l.space)
      (g.S.Space.kept l.space) l.passages l.time (g.N.Numbers.place l.from) l._jump;
}
