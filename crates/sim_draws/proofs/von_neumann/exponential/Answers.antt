use Rattle.std.proofs.Common.{◌≡◌, ◌+◌, ◌≤◌, ◌<◌, length, get_or, ap, sym, ◌∙◌, arith, refl, suc, add-one}
use Rattle.sim_draws.specs.Numbers.{next_numbers}
use Rattle.sim_draws.specs.ExponentialDraw.{run_length}
use Rattle.sim_draws.proofs.Rounds.{after_rounds-zero, after_rounds-suc, undecided_after, decides_here, not_here}
use Rattle.sim_draws.proofs.NumberLists.{length-next_numbers, index-next_numbers, drop-next_numbers}
use Rattle.sim_draws.proofs.von_neumann.exponential.Goals as goal

pub loop-left-init : goal.loop-left-init
loop-left-init g c = record {
  same = refl;
  place = refl;
  few = omega arith;
  reached = after_rounds-zero _;
  none = λ n h. absurd (omega arith);
}

pub returns-in_default-clause-draw : goal.returns-in_default-clause-draw
returns-in_default-clause-draw g c =
    let inv = c.loop-left.invariant in
    let at = g.N.Numbers.at c.args.from.now in
    let ys = next_numbers at (g.N.Numbers.place c.loop-left.from) c.loop-left.left in
    let len : length ys ≡ c.loop-left.left = length-next_numbers at (g.N.Numbers.place c.loop-left.from) c.loop-left.left in
    let whole : run_length ys ≡ c.loop-left.left = rw inv.same at c.in_default.ensures.run in
    undecided_after _ c.loop-left.rounds inv.none (rw inv.reached (omega arith))

pub returns-clause-draw : goal.returns-clause-draw
returns-clause-draw g c =
    let inv = c.loop-left.invariant in
    let at = g.N.Numbers.at c.args.from.now in
    let len = length-next_numbers at (g.N.Numbers.place c.loop-left.from) c.loop-left.left in
    undecided_after _ c.loop-left.rounds inv.none (rw inv.reached (omega arith))

pub returns-then-round-eq1-clause-draw : goal.returns-then-round-eq1-clause-draw
returns-then-round-eq1-clause-draw g c =
    let inv = c.loop-left.invariant in
    let at = g.N.Numbers.at c.args.from.now in
    let p = g.N.Numbers.place c.loop-left.from in
    let ys = next_numbers at p c.loop-left.left in
    let len : length ys ≡ c.loop-left.left = length-next_numbers at p c.loop-left.left in
    let all = length-next_numbers at (g.N.Numbers.place c.args.from.now) 256 in
    let run : c.in-Some.round.run ≡ run_length ys = rw inv.same at c.in-Some.ensures.run.0 in
    let less : run_length ys < length ys = omega (arith, rw inv.same at c.in-Some.ensures.run.1) in
    let first : c.in-Some.round.first ≡ get_or ys 0 0 =
    rw inv.same at c.in-Some.ensures.run.2 ∙ (let e : p ≡ p + 0 = omega arith in ap at e) ∙ sym (index-next_numbers at p c.loop-left.left 0 c.loop-left-test.true) in
    decides_here _ ys c.loop-left.rounds c.in-Some.round.run c.in-Some.round.first _ _ inv.reached run less c.if-round-eq1.true inv.none
    first (omega arith) (omega (arith, c.in-Some.ensures.spent))

pub loop-left-preserved : goal.loop-left-preserved
loop-left-preserved g c =
    let inv = c.loop-left.invariant in
    let at = g.N.Numbers.at c.args.from.now in
    let p = g.N.Numbers.place c.loop-left.from in
    let ys = next_numbers at p c.loop-left.left in
    let len : length ys ≡ c.loop-left.left = length-next_numbers at p c.loop-left.left in
    let run : c.in-Some.round.run ≡ run_length ys = rw inv.same at c.in-Some.ensures.run.0 in
    let less : run_length ys < c.loop-left.left = rw inv.same at c.in-Some.ensures.run.1 in
    let moved : g.N.Numbers.place c.one_round.new.from ≡ p + (c.in-Some.round.run + 1) = omega (arith, c.in-Some.ensures.spent) in
    let taken : c.in-Some.round.run + 1 ≡ suc (run_length ys) = omega arith in
    let room : c.in-Some.round.run + 1 ≤ c.loop-left.left = omega arith in
    record {
      same = c.one_round.ensures.same ∙ inv.same;
      place = omega arith;
      few = omega (arith, c.in-Some.ensures.range.0, c.if-round-eq1.false);
      reached = rw (add-one, after_rounds-suc, inv.reached, ← taken, moved) (drop-next_numbers at p c.loop-left.left (c.in-Some.round.run + 1) room);
      none = not_here _ ys c.loop-left.rounds c.in-Some.round.run inv.reached run c.if-round-eq1.false inv.none;
    }
