use Rattle.std.proofs.Common.{◌≡◌, ◌-◌, ◌≤◌, ◌<◌, ◌∙◌, arith}
use Rattle.sim_draws.proofs.Rounds.{round_begins, round_goes_on, round_stops, round_ends}
use Rattle.sim_draws.proofs.von_neumann.one_round.Goals as goal

pub loop-run-init : goal.loop-run-init
loop-run-init g c = record {
  same = c.number-first.ensures.same;
  place = c.number-first.ensures.moves;
  front = rw (c.number-first.ensures.value, c.number-first.ensures.moves) (round_begins _ _ c.args.most c.requires.some);
}

pub loop-run-preserved : goal.loop-run-preserved
loop-run-preserved g c =
    let at = g.N.Numbers.at c.args.from.now in
    let value : c.number-next.result ≡ at (g.N.Numbers.place c.loop-run.from) = rw (← c.loop-run.invariant.same) c.number-next.ensures.value in
    let less : at (g.N.Numbers.place c.loop-run.from) < c.loop-run.previous = omega arith in
    let room : c.loop-run.run < c.args.most = c.loop-run-test.true in
    let on = round_goes_on at (g.N.Numbers.place c.loop-run.from) c.loop-run.previous c.args.most c.loop-run.run room less in
    record {
      same = c.number-next.ensures.same ∙ c.loop-run.invariant.same;
      place = omega arith;
      front = rw (value, c.number-next.ensures.moves) (omega (arith, on, c.loop-run.invariant.front));
    }

pub returns-then-next-previous-clause-run : goal.returns-then-next-previous-clause-run
returns-then-next-previous-clause-run g c =
    let at = g.N.Numbers.at c.args.from.now in
    let value : c.number-next.result ≡ at (g.N.Numbers.place c.loop-run.from) = rw (← c.loop-run.invariant.same) c.number-next.ensures.value in
    let more : c.loop-run.previous ≤ at (g.N.Numbers.place c.loop-run.from) = omega arith in
    let room : c.loop-run.run < c.args.most = c.loop-run-test.true in
    let stop = round_stops at (g.N.Numbers.place c.loop-run.from) c.loop-run.previous c.args.most c.loop-run.run room more in
    (omega (arith, stop, c.loop-run.invariant.front), omega (arith, stop, c.loop-run.invariant.front), c.number-first.ensures.value)

pub returns-clause-run : goal.returns-clause-run
returns-clause-run g c =
    let at = g.N.Numbers.at c.args.from.now in
    let none : c.args.most - c.loop-run.run ≡ 0 = omega arith in
    let stop = round_ends at (g.N.Numbers.place c.loop-run.from) c.loop-run.previous (c.args.most - c.loop-run.run) none in
    omega (arith, stop, c.loop-run.invariant.front)
