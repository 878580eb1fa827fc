use Rattle.std.proofs.Common.{◌≡◌, ℕ, ◌+◌, ◌<◌, ◌^◌, drop}
use Rattle.std.specs.Str.Parse.{digits_value_after}
use Rattle.pepa_lexer.proofs.lexeme.value_behind.Given as goal

abbrev pub invariant-loop-digit : goal.invariant-loop-digit
invariant-loop-digit l = record {
  value : digits_value_after 10 l.value (drop l.digit-index l.digits) ≡ digits_value_after 10 l.fn.start l.digits;
  below : (n : ℕ) → l.fn.start < 10 ^ n → l.value < 10 ^ (n + l.digit-index);
}
