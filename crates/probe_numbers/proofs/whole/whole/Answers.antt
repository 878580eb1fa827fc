use Rattle.std.proofs.Common.{◌≡◌, ◌%◌, arith}
use Rattle.probe_numbers.proofs.WholeNumbers.{divides, divided_more}
use Rattle.probe_numbers.proofs.whole.whole.Goals as goal

pub returns-then-value-ne0 : goal.returns-then-value-ne0
returns-then-value-ne0 c = λ (n, e).
    let h : c.loop-place.value % 10 ≡ 0 = divides c.args.digits c.args.scale c.loop-place.value c.loop-place._place n c.loop-place.invariant c.loop-place-test.true e in
    let t = c.if-value-ne0.true in
    omega arith

pub loop-place-preserved : goal.loop-place-preserved
loop-place-preserved c = divided_more c.args.digits c.loop-place.value c.loop-place._place c.loop-place.invariant c.if-value-ne0.false
