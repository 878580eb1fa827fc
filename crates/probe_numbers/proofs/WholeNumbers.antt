-- Whole numbers: a number has one value, and which numbers are whole is decided.
use Rattle.std.proofs.Common.{◌≡◌, ℕ, zero, suc, ◌+◌, ◌-◌, ◌*◌, ◌/◌, ◌%◌, ◌^◌, ◌<◌, ◌≤◌, ◌⊎◌, inl, inr, List, Option, Some, None, slice_get, refl, sym, ap, ◌∙◌, subst, arith, unwrap_or, MatchOption, mul-div_cancel, pow-add, pow-suc, mul_assoc, mul_comm}
use Rattle.std.proofs.lemmas.Bool.Decides.{eqb_tells}
use Rattle.std.proofs.Math.Nat.{mul-mod_left}
use Rattle.pepa_lexer.specs.declared.kinds.Token.{Token}
use Rattle.pepa_lexer.specs.declared.kinds.Kind.{Kind}
use Rattle.pepa_lexer.specs.declared.kinds.Kind.TheVariants.{Small, Capital, Number, Sign, End}
use Rattle.pepa_lexer.proofs.Numbers.{some_power}
use Rattle.probe_numbers.specs.WholeNumbers.{IsWholeNumber, IsWholeAt, IsCountAt, whole_value, whole_value_of, whole_at}

-- the digits of a whole number, divided by the power, are its value
pub divided : (digits scale n : ℕ) → digits ≡ n * 10 ^ scale → digits / 10 ^ scale ≡ n
divided digits scale n e = ap (λ (z : ℕ). z / 10 ^ scale) e ∙ mul-div_cancel n (some_power scale)

-- what is left after some places divides by ten while places are left
pub divides : (digits scale value place n : ℕ) → value * 10 ^ place ≡ digits → place < scale → digits ≡ n * 10 ^ scale → value % 10 ≡ 0
divides digits scale value place n so_far less whole =
    let k : scale ≡ suc (scale - place - 1) + place = omega arith in
    let p : 10 ^ scale ≡ 10 ^ suc (scale - place - 1) * 10 ^ place = ap (λ (z : ℕ). 10 ^ z) k ∙ pow-add 10 (suc (scale - place - 1)) place in
    let q : value * 10 ^ place ≡ (n * 10 ^ suc (scale - place - 1)) * 10 ^ place = so_far ∙ whole ∙ ap (λ (z : ℕ). n * z) p ∙ sym (mul_assoc n (10 ^ suc (scale - place - 1)) (10 ^ place)) in
    let v : value ≡ n * 10 ^ suc (scale - place - 1) = sym (mul-div_cancel value (some_power place)) ∙ ap (λ (z : ℕ). z / 10 ^ place) q ∙ mul-div_cancel (n * 10 ^ suc (scale - place - 1)) (some_power place) in
    let t : value ≡ (n * 10 ^ (scale - place - 1)) * 10 = let u : 10 ^ suc (scale - place - 1) ≡ 10 ^ (scale - place - 1) * 10 = omega arith in v ∙ ap (λ (z : ℕ). n * z) u ∙ sym (mul_assoc n (10 ^ (scale - place - 1)) 10) in
    ap (λ (z : ℕ). z % 10) t ∙ mul-mod_left (n * 10 ^ (scale - place - 1)) 10

-- one place more
pub divided_more : (digits value place : ℕ) → value * 10 ^ place ≡ digits → value % 10 ≡ 0 → (value / 10) * 10 ^ (place + 1) ≡ digits
divided_more digits value place so_far even =
    let v : value ≡ (value / 10) * 10 = omega arith in
    let u : place + 1 ≡ suc place = omega arith in
    let w : 10 ^ suc place ≡ 10 ^ place * 10 = pow-suc 10 place in
    let p : 10 ^ (place + 1) ≡ 10 * 10 ^ place = ap (λ (z : ℕ). 10 ^ z) u ∙ w ∙ mul_comm (10 ^ place) 10 in
    ap (λ (z : ℕ). (value / 10) * z) p ∙ sym (mul_assoc (value / 10) 10 (10 ^ place)) ∙ ap (λ (z : ℕ). z * 10 ^ place) (sym v) ∙ so_far

-- the value of a kind that is whole
value_is : (kind : Kind) (n : ℕ) → IsWholeNumber kind n → whole_value kind ≡ n
value_is (Number digits scale) n e = divided digits scale n e
value_is Small n h = absurd h
value_is Capital n h = absurd h
value_is (Sign sign) n h = absurd h
value_is End n h = absurd h

pub whole_at_is : (tokens : List Token) (at n : ℕ) → IsWholeAt tokens at n → whole_at tokens at ≡ n
whole_at_is tokens at n (token, there, is) = ap (λ (z : Option Token). whole_value_of z) there ∙ value_is token.kind n is

none_some : (token : Token) → None ≡ Some token → ⊥
none_some token e = cc

-- a number is whole or not
kind_whole : (kind : Kind) → ((n : ℕ) × IsWholeNumber kind n) ⊎ ((n : ℕ) → ¬ IsWholeNumber kind n)
kind_whole (Number digits scale) = elim (eqb_tells digits (digits / 10 ^ scale * 10 ^ scale)) [
  | inl same ↦ inl (digits / 10 ^ scale, same.1)
  | inr other ↦ inr (λ n e. other.1 (e ∙ ap (λ (z : ℕ). z * 10 ^ scale) (sym (divided digits scale n e))))
]
kind_whole Small = inr (λ n h. h)
kind_whole Capital = inr (λ n h. h)
kind_whole (Sign sign) = inr (λ n h. h)
kind_whole End = inr (λ n h. h)

pub le_or_lt : (i j : ℕ) → (i ≤ j) ⊎ (j < i)
le_or_lt zero j = inl (omega arith)
le_or_lt (suc i) zero = inr (omega arith)
le_or_lt (suc i) (suc j) = elim (le_or_lt i j) [ inl a ↦ inl (omega arith) | inr b ↦ inr (omega arith) ]

-- at an index is one token at most
one_token : (tokens : List Token) (at : ℕ) (a b : Token) → slice_get tokens at ≡ Some a → slice_get tokens at ≡ Some b → a ≡ b
one_token tokens at a b e f = ap (λ (z : Option Token). unwrap_or z a) (sym e ∙ f)

pub one_whole : (tokens : List Token) (at m n : ℕ) → IsWholeAt tokens at m → IsWholeAt tokens at n → m ≡ n
one_whole tokens at m n first second = sym (whole_at_is tokens at m first) ∙ whole_at_is tokens at n second

-- a count is one or not
pub count_decided : (tokens : List Token) (limit at : ℕ) → IsCountAt tokens limit at ⊎ (¬ IsCountAt tokens limit at)
count_decided tokens limit at = by_token (slice_get tokens at) refl
  where
    by_value : (token : Token) → slice_get tokens at ≡ Some token → ((n : ℕ) × IsWholeNumber token.kind n) ⊎ ((n : ℕ) → ¬ IsWholeNumber token.kind n) → IsCountAt tokens limit at ⊎ (¬ IsCountAt tokens limit at)
    by_value token e (inl (n, whole)) = elim (le_or_lt n limit) [
      | inl few ↦ inl (n, (token, e, whole), few)
      | inr many ↦ inr (λ (m, is, few). let q : m ≡ n = one_whole tokens at m n is (token, e, whole) in omega arith)
    ]
    by_value token e (inr none) = inr (λ (m, (other, f, whole), few). none m (subst (λ (z : Token). IsWholeNumber z.kind m) (one_token tokens at other token f e) whole))

    by_token : (o : Option Token) → slice_get tokens at ≡ o → IsCountAt tokens limit at ⊎ (¬ IsCountAt tokens limit at)
    by_token None e = inr (λ (m, (token, f, whole), few). none_some token (sym e ∙ f))
    by_token (Some token) e = by_value token e (kind_whole token.kind)

-- a number that isn't refused is a count
pub count_stays : (tokens : List Token) (limit at : ℕ) → ¬ ¬ IsCountAt tokens limit at → IsCountAt tokens limit at
count_stays tokens limit at h = elim (count_decided tokens limit at) [ inl is ↦ is | inr not ↦ absurd (h not) ]

-- a whole number above the limit is no count
pub above_limit : (tokens : List Token) (at limit top value digits scale : ℕ) (token : Token) → Some token ≡ slice_get tokens at → token.kind ≡ Number digits scale → digits ≡ value * 10 ^ scale → top ≡ limit → top < value → ¬ IsCountAt tokens limit at
above_limit tokens at limit top value digits scale token there kind whole same above = λ (n, is, few).
    let q : n ≡ value = one_whole tokens at n value is (token, sym there, subst (λ (k : Kind). IsWholeNumber k value) (sym kind) whole) in
    omega arith

-- what a count's number is
pub count_is : (tokens : List Token) (at limit : ℕ) (o : Option ℕ) → IsCountAt tokens limit at → MatchOption o (¬ IsCountAt tokens limit at) (λ n. IsWholeAt tokens at n × (n ≤ limit)) → unwrap_or o 0 ≡ whole_at tokens at
count_is tokens at limit None is h = absurd (h is)
count_is tokens at limit (Some n) is h = sym (whole_at_is tokens at n h.0)
