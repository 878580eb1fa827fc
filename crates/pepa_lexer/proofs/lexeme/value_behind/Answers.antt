use Rattle.std.proofs.Common.{◌-◌, get_or, refl, arith}
use Rattle.pepa_lexer.proofs.Numbers.{value_fits, value_more, below_more}
use Rattle.pepa_lexer.proofs.lexeme.value_behind.Goals as goal

pub overflow_mul-value : goal.overflow_mul-value
overflow_mul-value c =
    let i = c.loop-digit.digit-index in
    let more = value_fits c.args.digits.now c.args.start c.loop-digit.value i (get_or c.args.digits.now i 0 - 48) c.requires.digits c.requires.few c.requires.small c.loop-digit-test.true c.loop-digit.invariant.below refl in
    omega arith

pub overflow_add-value : goal.overflow_add-value
overflow_add-value c =
    let more = value_fits c.args.digits.now c.args.start c.loop-digit.value c.loop-digit.digit-index c.from.result c.requires.digits c.requires.few c.requires.small c.loop-digit-test.true c.loop-digit.invariant.below c.from.ensures in
    omega arith

pub loop-digit-preserved : goal.loop-digit-preserved
loop-digit-preserved c = record {
  value = value_more c.args.digits.now c.args.start c.loop-digit.value c.loop-digit.digit-index c.from.result c.requires.digits c.loop-digit-test.true c.loop-digit.invariant.value c.from.ensures;
  below = below_more c.args.digits.now c.args.start c.loop-digit.value c.loop-digit.digit-index c.from.result c.requires.digits c.loop-digit-test.true c.loop-digit.invariant.below c.from.ensures;
}
