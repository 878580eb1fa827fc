-- The value of at most 30 digits.
use Rattle.std.proofs.Common.{◌≡◌, ℕ, suc, ◌+◌, ◌-◌, ◌*◌, ◌^◌, ◌<◌, ◌≤◌, true, List, [], ◌∷◌, ◌++◌, length, get_or, drop, refl, sym, ap, ◌∙◌, arith}
use Rattle.std.specs.List.{list_all}
use Rattle.std.specs.Char.{digit_value}
use Rattle.std.specs.Str.Parse.{digits_value_after}
use Rattle.std.proofs.Math.Nat.{pow-suc, pow-le-pow_right}
use Rattle.std.proofs.lemmas.Bool.Decides.{nat_tests}
use Rattle.std.proofs.lemmas.List.{at_drop_more}
use Rattle.std.proofs.lemmas.List.Sums.{AllPass-from_list_all}
use Rattle.pepa_lexer.specs.Bytes.{is_digit}

record IsDigit (byte : ℕ) : Type 0 where
  above : 48 ≤ byte
  within : byte ≤ 57
  value : digit_value byte ≡ byte - 48

digit_is : (byte : ℕ) → is_digit byte ≡ true → IsDigit byte
digit_is byte h =
    let above : 48 ≤ byte = grind (arith, nat_tests) in
    let within : byte ≤ 57 = grind (arith, nat_tests) in
    record { above = above; within = within; value = grind (arith, nat_tests) }

digit_at : (digits : List ℕ) (i : ℕ) → list_all is_digit digits ≡ true → i < length digits → IsDigit (get_or digits i 0)
digit_at digits i h lt = digit_is (get_or digits i 0) (AllPass-from_list_all is_digit digits h i 0 lt)

pub small_power : (i n : ℕ) → i ≤ n → 10 ^ i ≤ 10 ^ n
small_power i n le = let ten : 0 < 10 = omega arith in pow-le-pow_right ten le

pub some_power : (n : ℕ) → 0 < 10 ^ n
some_power n = let le = small_power 0 n (omega arith) in omega arith

-- one digit more still fits
pub value_fits : (digits : List ℕ) (start value i digit : ℕ) → list_all is_digit digits ≡ true → length digits ≤ 30 → start < 10 ^ (30 - length digits) → i < length digits → ((n : ℕ) → start < 10 ^ n → value < 10 ^ (n + i)) → digit ≡ get_or digits i 0 - 48 → value * 10 + digit < 2 ^ 128
value_fits digits start value i digit h few small lt below is =
    let bound = below (30 - length digits) small in
    let power = small_power (30 - length digits + i) 29 (omega arith) in
    let d = digit_at digits i h lt in
    let nine : digit ≤ 9 = omega (arith, d.within, is) in
    omega arith

pub value_more : (digits : List ℕ) (start value i digit : ℕ) → list_all is_digit digits ≡ true → i < length digits → digits_value_after 10 value (drop i digits) ≡ digits_value_after 10 start digits → digit ≡ get_or digits i 0 - 48 → digits_value_after 10 (value * 10 + digit) (drop (i + 1) digits) ≡ digits_value_after 10 start digits
value_more digits start value i digit h lt so_far is =
    let d = digit_at digits i h lt in
    let more : digits_value_after 10 value (drop i digits) ≡ digits_value_after 10 (value * 10 + digit_value (get_or digits i 0)) (drop (i + 1) digits) = at_drop_more (digits_value_after 10 value) digits i 0 lt in
    ap (λ (x : ℕ). digits_value_after 10 (value * 10 + x) (drop (i + 1) digits)) (is ∙ sym d.value) ∙ sym more ∙ so_far

pub below_more : (digits : List ℕ) (start value i digit : ℕ) → list_all is_digit digits ≡ true → i < length digits → ((n : ℕ) → start < 10 ^ n → value < 10 ^ (n + i)) → digit ≡ get_or digits i 0 - 48 → (n : ℕ) → start < 10 ^ n → value * 10 + digit < 10 ^ (n + (i + 1))
below_more digits start value i digit h lt below is n small =
    let bound = below n small in
    let d = digit_at digits i h lt in
    let nine : digit ≤ 9 = omega (arith, d.within, is) in
    let power : 10 ^ (n + (i + 1)) ≡ 10 ^ (n + i) * 10 = let e : n + (i + 1) ≡ suc (n + i) = omega arith in rw e (pow-suc 10 (n + i)) in
    omega arith

-- digits behind digits
pub digits_value_after-append : (start : ℕ) (digits more : List ℕ) → digits_value_after 10 start (digits ++ more) ≡ digits_value_after 10 (digits_value_after 10 start digits) more
digits_value_after-append start [] more = refl
digits_value_after-append start (digit ∷ digits) more = digits_value_after-append (start * 10 + digit_value digit) digits more
