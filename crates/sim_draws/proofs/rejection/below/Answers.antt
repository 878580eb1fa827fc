use Rattle.std.proofs.Common.{◌≡◌, ℕ, ◌<◌, ◌%◌, get_or, ap, sym, ◌∙◌, arith}
use Rattle.sim_draws.proofs.NumberLists.{length-next_numbers, index-next_numbers}
use Rattle.sim_draws.specs.Numbers.{next_numbers}
use Rattle.sim_draws.proofs.rejection.below.Goals as goal

pub returns-clause-draw : goal.returns-clause-draw
returns-clause-draw g c k h =
    let at = g.N.Numbers.at c.args.from.now in
    let p = g.N.Numbers.place c.args.from.now in
    let room : k < 64 = rw length-next_numbers at h in
    let more : k < c.loop-taken._taken = omega arith in
    rw (index-next_numbers at p 64 k room) (c.loop-taken.invariant.none k more)

pub returns-then-number-last-clause-draw : goal.returns-then-number-last-clause-draw
returns-then-number-last-clause-draw g c =
    let inv = c.loop-taken.invariant in
    let at = g.N.Numbers.at c.args.from.now in
    let p = g.N.Numbers.place c.args.from.now in
    let k = c.loop-taken._taken in
    let room : k < 64 = c.loop-taken-test.true in
    let value : c.number-number.result ≡ get_or (next_numbers at p 64) k 0 = c.number-number.ensures.value ∙ ap (λ (f : ℕ → ℕ). f (g.N.Numbers.place c.loop-taken.from)) inv.same ∙ ap at inv.place ∙ sym (index-next_numbers at p 64 k room) in
    record {
      index = k;
      in_list = rw length-next_numbers room;
      fair = omega arith;
      first = λ j h. let h2 : j < 64 = omega arith in rw (index-next_numbers at p 64 j h2) (inv.none j h);
      value = ap (λ (x : ℕ). x % c.args.bound) value;
      taken = omega arith;
    }
