use Rattle.std.proofs.Common.{◌≤◌, ◌^◌, length, arith}
use Rattle.probe_numbers.proofs.CountedConstants.{few_distinct, place_here, place_nowhere}
use Rattle.probe_numbers.proofs.counted.place_of.Goals as goal

pub overflow_cast-result : goal.overflow_cast-result
overflow_cast-result c =
    let few : length c.args.counted.now ≤ 2 ^ 32 = few_distinct c.args.counted.now c.requires (λ k l. let f = c.type_inv.counted k in omega arith) in
    let less = c.loop-at-test.true in
    omega arith

pub returns-then-number-other : goal.returns-then-number-other
returns-then-number-other c = place_here c.args.number c.args.counted.now c.loop-at.at c.loop-at-test.true c.loop-at.invariant c.if-number-other.true

pub returns : goal.returns
returns c = place_nowhere c.args.number c.args.counted.now (λ k l. let e = c.loop-at-test.false in c.loop-at.invariant k (omega arith))
