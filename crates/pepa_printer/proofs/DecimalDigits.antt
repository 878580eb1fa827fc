-- The decimal digits of a number: they are digits, not too many, and have its value.
use Rattle.std.proofs.Common.{◌≡◌, ℕ, ◌+◌, ◌/◌, ◌%◌, ◌^◌, ◌<◌, ◌≤◌, true, List, [], ◌∷◌, ◌++◌, length, decimal, refl, ◌∙◌, arith}
use Rattle.std.specs.List.{list_all}
use Rattle.std.specs.Str.Parse.{digits_value}
use Rattle.std.proofs.lemmas.Bool.Decides.{nat_tests}
use Rattle.std.proofs.lemmas.Fmt.{decimal_is_IsNumeral, decimal_by_steps, length-decimal-le}
use Rattle.std.proofs.lemmas.List.Folds.{list_all-append}
use Rattle.pepa_lexer.specs.Bytes.{is_digit, begins}

pub record IsDecimalText (n : ℕ) : Type 0 where
  pub digit : begins is_digit (decimal n) ≡ true
  pub digits : list_all is_digit (decimal n) ≡ true
  pub few : length (decimal n) ≤ 30
  pub value : digits_value 10 (decimal n) ≡ n

digit_byte : (d : ℕ) → d < 10 → is_digit (48 + d) ≡ true
digit_byte d small = grind (arith, nat_tests)

record AreDecimal (n : ℕ) (ds : List ℕ) : Type 0 where
  digit : begins is_digit ds ≡ true
  digits : list_all is_digit ds ≡ true

one_digit : (n : ℕ) → n < 10 → AreDecimal n ((48 + n) ∷ [])
one_digit n small = record { digit = digit_byte n small; digits = rw (digit_byte n small) refl }

begins_more : (ds more : List ℕ) → begins is_digit ds ≡ true → begins is_digit (ds ++ more) ≡ true
begins_more [] more h = absurd cc
begins_more (d ∷ ds) more h = h

more_digits : (n : ℕ) (ds : List ℕ) → 10 ≤ n → AreDecimal (n / 10) ds → AreDecimal n (ds ++ ((48 + n % 10) ∷ []))
more_digits n ds many front =
    let last = one_digit (n % 10) (omega arith) in
    record {
      digit = begins_more ds ((48 + n % 10) ∷ []) front.digit;
      digits = list_all-append is_digit ds ((48 + n % 10) ∷ []) ∙ rw (front.digits, last.digits) refl;
    }

pub decimal_text : (n : ℕ) → n < 2 ^ 42 → IsDecimalText n
decimal_text n small =
    let fits : n < 2 ^ 64 = omega arith in
    let room : n < 10 ^ 30 = omega arith in
    let all = decimal_by_steps AreDecimal one_digit more_digits n fits in
    record { digit = all.digit; digits = all.digits; few = length-decimal-le 30 n (omega arith) room fits; value = (decimal_is_IsNumeral n fits).1 }
