use Rattle.std.proofs.Common.{◌+◌, ◌-◌, length, refl, sym, ◌∙◌, arith}
use Rattle.pepa_lexer.proofs.Numbers.{some_power, small_power}
use Rattle.pepa_lexer.proofs.Runs.{none_left, some_left}
use Rattle.pepa_lexer.proofs.Scanning.{digits_of, many_digits, letter_behind_digits, whole_scanned, pointed_is, no_fraction, many_fraction, letter_behind_fraction, pointed_scanned}
use Rattle.pepa_lexer.proofs.lexeme.number.Goals as goal
use Rattle.pepa_lexer.proofs.lexeme.number.Goals.{then-digits-gt-MOST_DIGITS-via-then-digits-gt-MOST_DIGITS, then-digits-gt-MOST_DIGITS-via-else-digits-gt-MOST_DIGITS+then-begins_with_word_byte, then-is_empty-via-then-is_empty, then-is_empty-via-else-is_empty+then-digits-behind-gt-MOST_DIGITS, then-is_empty-via-else-is_empty+else-digits-behind-gt-MOST_DIGITS+then-begins_with_word_byte-2}

pub returns-then-digits-gt-MOST_DIGITS : goal.returns-then-digits-gt-MOST_DIGITS
returns-then-digits-gt-MOST_DIGITS c =
    let run = digits_of c.args.text.now c.split_at.result.0.now c.split_at.result.1.now c.digits_len.result c.digits_len.ensures.value c.split_at.ensures.front c.split_at.ensures.back in (
      refl,
      elim c.then-digits-gt-MOST_DIGITS.branch [
        | then-digits-gt-MOST_DIGITS-via-then-digits-gt-MOST_DIGITS w ↦ many_digits c.args.text.now c.split_at.result.0.now c.split_at.result.1.now run c.requires w.if-digits-gt-MOST_DIGITS.true
        | then-digits-gt-MOST_DIGITS-via-else-digits-gt-MOST_DIGITS+then-begins_with_word_byte w ↦ letter_behind_digits c.args.text.now c.split_at.result.0.now c.split_at.result.1.now run c.requires (sym w.begins_with_word_byte.ensures ∙ w.if-begins_with_word_byte.true)
      ],
    )

pub value_behind-whole-requires-clause-digits : goal.value_behind-whole-requires-clause-digits
value_behind-whole-requires-clause-digits c =
    (digits_of c.args.text.now c.split_at.result.0.now c.split_at.result.1.now c.digits_len.result c.digits_len.ensures.value c.split_at.ensures.front c.split_at.ensures.back).all

pub value_behind-whole-requires-clause-small : goal.value_behind-whole-requires-clause-small
value_behind-whole-requires-clause-small c = some_power _

pub returns-then-not-begins_with : goal.returns-then-not-begins_with
returns-then-not-begins_with c =
    let run = digits_of c.args.text.now c.split_at.result.0.now c.split_at.result.1.now c.digits_len.result c.digits_len.ensures.value c.split_at.ensures.front c.split_at.ensures.back in
    whole_scanned c.args.text.now c.split_at.result.0.now c.split_at.result.1.now c.value_behind-whole.result run c.requires c.if-digits-gt-MOST_DIGITS.false (sym c.begins_with_word_byte.ensures ∙ c.if-begins_with_word_byte.false) (sym c.begins_with.ensures ∙ c.if-not-begins_with.true) c.value_behind-whole.ensures.value

pub returns-then-is_empty : goal.returns-then-is_empty
returns-then-is_empty c =
    let run = digits_of c.args.text.now c.split_at.result.0.now c.split_at.result.1.now c.digits_len.result c.digits_len.ensures.value c.split_at.ensures.front c.split_at.ensures.back in
    let is = pointed_is c.args.text.now c.split_at.result.0.now c.split_at.result.1.now c.split_at-2.result.1.now run c.requires (sym c.begins_with.ensures ∙ c.if-not-begins_with.false) c.split_at-2.ensures.back in
    let more = digits_of c.split_at-2.result.1.now c.split_at-3.result.0.now c.split_at-3.result.1.now c.digits_len-2.result c.digits_len-2.ensures.value c.split_at-3.ensures.front c.split_at-3.ensures.back in (
      refl,
      elim c.then-is_empty.branch [
        | then-is_empty-via-then-is_empty w ↦ no_fraction c.args.text.now c.split_at.result.0.now c.split_at-2.result.1.now c.split_at-3.result.0.now c.split_at-3.result.1.now is more (none_left _ (sym c.is_empty.ensures ∙ w.if-is_empty.true))
        | then-is_empty-via-else-is_empty+then-digits-behind-gt-MOST_DIGITS w ↦ many_fraction c.args.text.now c.split_at.result.0.now c.split_at-2.result.1.now c.split_at-3.result.0.now c.split_at-3.result.1.now is more (some_left _ (sym c.is_empty.ensures ∙ w.if-is_empty.false)) w.if-digits-behind-gt-MOST_DIGITS.true
        | then-is_empty-via-else-is_empty+else-digits-behind-gt-MOST_DIGITS+then-begins_with_word_byte-2 w ↦ letter_behind_fraction c.args.text.now c.split_at.result.0.now c.split_at-2.result.1.now c.split_at-3.result.0.now c.split_at-3.result.1.now is more (some_left _ (sym c.is_empty.ensures ∙ w.if-is_empty.false)) (sym w.begins_with_word_byte-else-digits-behind-gt-MOST_DIGITS.ensures ∙ w.if-begins_with_word_byte-2.true)
      ],
    )

pub value_behind-requires-clause-digits : goal.value_behind-requires-clause-digits
value_behind-requires-clause-digits c =
    (digits_of c.split_at-2.result.1.now c.split_at-3.result.0.now c.split_at-3.result.1.now c.digits_len-2.result c.digits_len-2.ensures.value c.split_at-3.ensures.front c.split_at-3.ensures.back).all

pub value_behind-requires-clause-small : goal.value_behind-requires-clause-small
value_behind-requires-clause-small c =
    let below = c.value_behind-whole.ensures.below 0 (some_power 0) in
    let power = small_power (0 + length c.split_at.result.0.now) (30 - length c.split_at-3.result.0.now) (omega arith) in
    omega arith

pub returns : goal.returns
returns c =
    let run = digits_of c.args.text.now c.split_at.result.0.now c.split_at.result.1.now c.digits_len.result c.digits_len.ensures.value c.split_at.ensures.front c.split_at.ensures.back in
    let is = pointed_is c.args.text.now c.split_at.result.0.now c.split_at.result.1.now c.split_at-2.result.1.now run c.requires (sym c.begins_with.ensures ∙ c.if-not-begins_with.false) c.split_at-2.ensures.back in
    let more = digits_of c.split_at-2.result.1.now c.split_at-3.result.0.now c.split_at-3.result.1.now c.digits_len-2.result c.digits_len-2.ensures.value c.split_at-3.ensures.front c.split_at-3.ensures.back in
    pointed_scanned c.args.text.now c.split_at.result.0.now c.split_at-2.result.1.now c.split_at-3.result.0.now c.split_at-3.result.1.now c.value_behind-whole.result c.value_behind.result is more (some_left _ (sym c.is_empty.ensures ∙ c.if-is_empty.false)) c.if-digits-behind-gt-MOST_DIGITS.false (sym c.begins_with_word_byte-else-digits-behind-gt-MOST_DIGITS.ensures ∙ c.if-begins_with_word_byte-2.false) c.value_behind-whole.ensures.value c.value_behind.ensures.value
