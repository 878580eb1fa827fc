-- A rate that is written as one of a model is has this rate as its value, and no rate name.
use Rattle.std.proofs.Common.{◌≡◌, ℕ, ◌*◌, ◌/◌, ◌%◌, ◌^◌, ◌<◌, Bool, true, false, ◌&&◌, nat_lt, nat_eq, if◌then◌else◌, List, [], Option, slice_get, inl, inr, refl, sym, ap, ◌∙◌, subst, arith}
use Rattle.std.proofs.lemmas.Bool.Decides.{nat_tests}
use Rattle.pepa_rates.specs.Fraction.{Fraction, gcd_within, gcd, reduced, IsProper}
use Rattle.pepa_rates.specs.declared.rate.Rate.{Rate}
use Rattle.pepa_rates.specs.declared.rate.Rate.TheVariants.{Active, Passive}
use Rattle.pepa_rates.proofs.LowestTerms.{fraction_same, proper-reduced}
use Rattle.pepa_lexer.specs.declared.kinds.Kind.{Kind}
use Rattle.pepa_lexer.specs.declared.kinds.Kind.TheVariants.{Number, Sign}
use Rattle.pepa_lexer.specs.declared.kinds.Sign.TheVariants.{Slash}
use Rattle.pepa_lexer.specs.declared.kinds.Token.{Token}
use Rattle.pepa_reader.specs.Trees.{RateNode}
use Rattle.pepa_resolver.specs.Parts.{names_in}
use Rattle.pepa_resolver.specs.Outcomes.{Outcome, Good, BadAt, is_fine, fine_at, kind_value, number_value, op_kind_value, op_value, combined_outcome, active_outcome, weight_outcome, rate_outcome}
use Rattle.pepa_model.specs.Spelling.{IsWrittenRate}
use Rattle.pepa_printer.proofs.PrintedFiles.{IsKindAt, IsFractionAt, IsWeightAt, IsRateAt}

abbrev fraction : ℕ → ℕ → Fraction
fraction n d = record { num = n; den = d }

-- ---- whole numbers

gcd_one : (n : ℕ) → gcd n 1 ≡ 1
unfolding gcd gcd_within
gcd_one n = let none : n % 1 ≡ 0 = omega arith in ap (λ (k : ℕ). gcd_within 1 1 k) none

whole_number : (n : ℕ) → reduced n 1 ≡ fraction n 1
unfolding reduced
whole_number n = rw (gcd_one n) (fraction_same (fraction (n / 1) (1 / 1)) (fraction n 1) (omega arith) (omega arith))

number_is : (tokens : List Token) (i n : ℕ) → IsKindAt tokens i (Number n 0) → number_value (slice_get tokens i) ≡ fraction n 1
number_is tokens i n (token, at, kind) =
    let value : number_value (slice_get tokens i) ≡ kind_value token.kind = ap number_value at in
    value ∙ ap kind_value kind ∙ whole_number n

-- ---- what is fine

three : (a b c : Bool) → a ≡ true → b ≡ true → c ≡ true → (a && (b && c)) ≡ true
three true true c h k l = l
three true false c h k l = absurd cc
three false b c h k l = absurd cc

less_true : (a b : ℕ) → a < b → nat_lt a b ≡ true
less_true a b lt = grind (arith, nat_tests)

fine_true : (q : Fraction) → 0 < q.num → q.num < 2 ^ 42 → q.den < 2 ^ 42 → is_fine q ≡ true
fine_true q some low less =
    three (nat_lt 0 q.num) (nat_lt q.num (2 ^ 42)) (nat_lt q.den (2 ^ 42)) (less_true 0 q.num some) (less_true q.num (2 ^ 42) low) (less_true q.den (2 ^ 42) less)

fine_good : (at : ℕ) (q : Fraction) → 0 < q.num → q.num < 2 ^ 42 → q.den < 2 ^ 42 → fine_at at q ≡ Good q
fine_good at q some low less = ap (λ (b : Bool). if b then Good q else BadAt at) (fine_true q some low less)

number_good : (tokens : List Token) (i n : ℕ) → IsKindAt tokens i (Number n 0) → 0 < n → n < 2 ^ 42 → fine_at i (number_value (slice_get tokens i)) ≡ Good (fraction n 1)
number_good tokens i n kind some low = ap (fine_at i) (number_is tokens i n kind) ∙ fine_good i (fraction n 1) some low (omega arith)

-- a number over another one
quotient_is : (tokens : List Token) (i n d : ℕ) → IsKindAt tokens i (Sign Slash) → op_value (slice_get tokens i) (fraction n 1) (fraction d 1) ≡ reduced n d
quotient_is tokens i n d (token, at, kind) =
    let value : op_value (slice_get tokens i) (fraction n 1) (fraction d 1) ≡ op_kind_value token.kind (fraction n 1) (fraction d 1) =
    ap (λ (o : Option Token). op_value o (fraction n 1) (fraction d 1)) at in
    value
    ∙ ap (λ (k : Kind). op_kind_value k (fraction n 1) (fraction d 1)) kind
    ∙ ap (λ (k : ℕ). reduced k (1 * d)) (times_one n)
    ∙ ap (reduced n) (one_times d)
  where
    times_one : (k : ℕ) → k * 1 ≡ k
    times_one k = omega arith

    one_times : (k : ℕ) → 1 * k ≡ k
    one_times k = omega arith

-- ---- rates

module _ (tokens : List Token) (named : ℕ → Outcome Rate) where
  fraction_good : (q : Fraction) (node : RateNode) → IsProper q → IsFractionAt tokens q node → rate_outcome tokens named node ≡ Good (Active q)
  fraction_good q node proper (inl (i, is, one, kind)) =
      let same : fraction q.num 1 ≡ q = fraction_same (fraction q.num 1) q refl (sym one) in
      subst (λ (node : RateNode). rate_outcome tokens named node ≡ Good (Active q)) (sym is)
      (ap active_outcome (number_good tokens i q.num kind proper.positive proper.in_range.0 ∙ ap (λ (p : Fraction). Good p) same))
  fraction_good q node proper (inr (i, j, k, is, slash, over, under)) =
      let left = number_good tokens j q.num over proper.positive proper.in_range.0 in
      let right = number_good tokens k q.den under proper.over_positive proper.in_range.1 in
      let value : op_value (slice_get tokens i) (fraction q.num 1) (fraction q.den 1) ≡ q = quotient_is tokens i q.num q.den slash ∙ proper-reduced q proper in
      let both : combined_outcome tokens i (fine_at j (number_value (slice_get tokens j))) (fine_at k (number_value (slice_get tokens k))) ≡ Good q =
      ap (λ (o : Outcome Fraction). combined_outcome tokens i o (fine_at k (number_value (slice_get tokens k)))) left
      ∙ ap (combined_outcome tokens i (Good (fraction q.num 1))) right
      ∙ ap (fine_at i) value
      ∙ fine_good i q proper.positive proper.in_range.0 proper.in_range.1 in
      subst (λ (node : RateNode). rate_outcome tokens named node ≡ Good (Active q)) (sym is) (ap active_outcome both)

  weight_good : (q : Fraction) (node : RateNode) → IsProper q → IsWeightAt tokens q node → rate_outcome tokens named node ≡ Good (Passive q)
  weight_good q node proper (inl (i, is, one, under)) =
      let same : fraction 1 1 ≡ q = fraction_same (fraction 1 1) q (sym one) (sym under) in
      subst (λ (node : RateNode). rate_outcome tokens named node ≡ Good (Passive q)) (sym is) (ap (λ (p : Fraction). Good (Passive p)) same)
  weight_good q node proper (inr (i, w, is, under, kind)) =
      let same : fraction q.num 1 ≡ q = fraction_same (fraction q.num 1) q refl (sym under) in
      let value : number_value (slice_get tokens w) ≡ q = number_is tokens w q.num kind ∙ same in
      subst (λ (node : RateNode). rate_outcome tokens named node ≡ Good (Passive q)) (sym is)
      (ap (weight_outcome w) value
      ∙ ap (λ (b : Bool). if b then Good (Passive q) else BadAt w) (both (is_fine q) (nat_eq q.den 1) (fine_true q proper.positive proper.in_range.0 proper.in_range.1) (equal_true q.den under)))
    where
      both : (a b : Bool) → a ≡ true → b ≡ true → (a && b) ≡ true
      both true b h k = k
      both false b h k = absurd cc

      equal_true : (n : ℕ) → n ≡ 1 → nat_eq n 1 ≡ true
      equal_true n e = ap (λ (k : ℕ). nat_eq k 1) e

  pub rate_good : (r : Rate) (node : RateNode) → IsRateAt tokens r node → IsWrittenRate r → rate_outcome tokens named node ≡ Good r
  rate_good (Active q) node at written = fraction_good q node written at
  rate_good (Passive q) node at written = weight_good q node written.0 at

-- no rate name stands in it
pub rate_no_names : (tokens : List Token) (r : Rate) (node : RateNode) → IsRateAt tokens r node → names_in node ≡ []
rate_no_names tokens (Active q) node (inl (i, is, one, kind)) = ap names_in is
rate_no_names tokens (Active q) node (inr (i, j, k, is, slash, over, under)) = ap names_in is
rate_no_names tokens (Passive q) node (inl (i, is, one, under)) = ap names_in is
rate_no_names tokens (Passive q) node (inr (i, w, is, under, kind)) = ap names_in is
