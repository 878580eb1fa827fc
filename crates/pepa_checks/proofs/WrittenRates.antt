-- The rates that a text gives can be written: they are fractions of the program, and weights are whole numbers.
use Rattle.std.proofs.Common.{◌≡◌, ℕ, zero, suc, ◌+◌, ◌-◌, ◌*◌, ◌^◌, ◌<◌, Bool, true, false, ◌&&◌, nat_lt, nat_eq, if◌then◌else◌, List, [], ◌∷◌, length, take, Option, Some, None, slice_get, refl, sym, ap, ◌∙◌, subst, arith}
use Rattle.std.specs.Cmp.Lexicographic.{pointwise}
use Rattle.std.proofs.lemmas.Bool.Decides.{nat_tests}
use Rattle.std.proofs.lemmas.Option.{same_Some, slice_get_within}
use Rattle.pepa_rates.specs.Fraction.{Fraction, gcd, gcd_within, reduced, IsProper}
use Rattle.pepa_rates.specs.declared.rate.Rate.{Rate}
use Rattle.pepa_rates.specs.declared.rate.Rate.TheVariants.{Active, Passive}
use Rattle.pepa_rates.proofs.LowestTerms.{reduced-lowest, reduced-positive, num-whole, den-whole}
use Rattle.pepa_lexer.specs.declared.kinds.Kind.{Kind}
use Rattle.pepa_lexer.specs.declared.kinds.Kind.TheVariants as kinds
use Rattle.pepa_lexer.specs.declared.kinds.Sign.{Sign}
use Rattle.pepa_lexer.specs.declared.kinds.Sign.TheVariants.{Plus, Minus, Star, Slash}
use Rattle.pepa_lexer.specs.declared.kinds.Token.{Token}
use Rattle.pepa_reader.specs.Trees.{RateNode, NumberAt, NameAt, TopAt, OpAt, BracketOf, RateLineNode}
use Rattle.pepa_model.specs.Spelling.{IsWrittenRate}
use Rattle.pepa_resolver.specs.Outcomes.{Outcome, Good, NoValue, BadAt, is_fine, fine_at, kind_value, number_value, sign_value, op_kind_value, op_value, inner_name, combined_outcome, sum_outcome, active_outcome, weight_outcome, rate_outcome, value_of, looked_up, AreOutcomes}
use Rattle.pepa_resolver.specs.Numbers.{rate_of_outcome}

-- ---- fractions

-- unless it is 0, it is in lowest terms, and its denominator isn't 0
abbrev IsLowest : Fraction → Type 0
IsLowest q = 0 < q.num → (gcd q.num q.den ≡ 1) × (0 < q.den)

no_zero : (g n q d : ℕ) → g * n ≡ 0 → 0 < n → g * q ≡ d → 0 < d → ⊥
no_zero zero n q d e some f over = omega arith
no_zero (suc g) n q d e some f over = absurd (grind (arith, mul_some g n))
  where
    mul_some : (k m : ℕ) → suc k * m ≡ m + k * m
    mul_some k m = omega arith

lowest : (n d : ℕ) → 0 < d → IsLowest (reduced n d)
lowest zero d over some = absurd (no_zero (gcd 0 d) (reduced 0 d).num (reduced 0 d).den d (num-whole 0 d) some (den-whole 0 d) over)
lowest (suc n) d over some = (reduced-lowest (suc n) d (omega arith), (reduced-positive (suc n) d (omega arith) over).1)

nothing_lowest : IsLowest (record { num = 0; den = 1 })
nothing_lowest some = absurd (omega arith)

ten_some : (scale : ℕ) → 0 < 10 ^ scale
ten_some zero = omega arith
ten_some (suc scale) = let rest = ten_some scale in let e : 10 ^ suc scale ≡ 10 * 10 ^ scale = omega arith in omega arith

product_some : (x y : ℕ) → 0 < x → 0 < y → 0 < x * y
product_some (suc x) (suc y) h k = let e : suc x * suc y ≡ suc y + x * suc y = omega arith in omega arith
product_some zero y h k = absurd (omega arith)
product_some (suc x) zero h k = absurd (omega arith)

both_true : (a b : Bool) → a && b ≡ true → (a ≡ true) × (b ≡ true)
both_true true b h = (refl, h)
both_true false b h = absurd cc

proper : (q : Fraction) → IsLowest q → is_fine q ≡ true → IsProper q
proper q low fine =
    let first = both_true (nat_lt 0 q.num) (nat_lt q.num (2 ^ 42) && nat_lt q.den (2 ^ 42)) fine in
    let second = both_true (nat_lt q.num (2 ^ 42)) (nat_lt q.den (2 ^ 42)) first.1 in
    let some : 0 < q.num = grind (arith, nat_tests, first.0) in
    let num : q.num < 2 ^ 42 = grind (arith, nat_tests, second.0) in
    let den : q.den < 2 ^ 42 = grind (arith, nat_tests, second.1) in
    record { positive = some; over_positive = (low some).1; lowest = (low some).0; in_range = (num, den) }

one_proper : IsProper (record { num = 1; den = 1 })
unfolding gcd gcd_within
one_proper = record { positive = omega arith; over_positive = omega arith; lowest = refl; in_range = (omega arith, omega arith) }

same_good : {X : Type 0} (x y : X) → Good x ≡ Good y → x ≡ y
same_good x y e = cc

good_fine : (at : ℕ) (q r : Fraction) → IsLowest q → fine_at at q ≡ Good r → IsProper r
good_fine at q r low e = by (is_fine q) refl e
  where
    by : (b : Bool) → is_fine q ≡ b → (if b then Good q else BadAt at) ≡ Good r → IsProper r
    by true fine h = subst IsProper (same_good q r h) (proper q low fine)
    by false fine h = absurd cc

-- ---- values

kind_lowest : (kind : Kind) → IsLowest (kind_value kind)
kind_lowest (kinds.Number digits scale) = lowest digits (10 ^ scale) (ten_some scale)
kind_lowest kinds.Small = nothing_lowest
kind_lowest kinds.Capital = nothing_lowest
kind_lowest (kinds.Sign sign) = nothing_lowest
kind_lowest kinds.End = nothing_lowest

number_lowest : (token : Option Token) → IsLowest (number_value token)
number_lowest None = nothing_lowest
number_lowest (Some token) = kind_lowest token.kind

module _ (p q : Fraction) (p_some : IsProper p) (q_some : IsProper q) where
  dens : 0 < p.den * q.den
  dens = product_some p.den q.den p_some.over_positive q_some.over_positive

  over : 0 < p.den * q.num
  over = product_some p.den q.num p_some.over_positive q_some.positive

  sign_lowest : (sign : Sign) → IsLowest (sign_value sign p q)
  sign_lowest Plus = lowest (p.num * q.den + q.num * p.den) (p.den * q.den) dens
  sign_lowest Minus = lowest (p.num * q.den - q.num * p.den) (p.den * q.den) dens
  sign_lowest Star = lowest (p.num * q.num) (p.den * q.den) dens
  sign_lowest Slash = lowest (p.num * q.den) (p.den * q.num) over
  sign_lowest _ = nothing_lowest

  op_kind_lowest : (kind : Kind) → IsLowest (op_kind_value kind p q)
  op_kind_lowest (kinds.Sign sign) = sign_lowest sign
  op_kind_lowest kinds.Small = nothing_lowest
  op_kind_lowest kinds.Capital = nothing_lowest
  op_kind_lowest (kinds.Number digits scale) = nothing_lowest
  op_kind_lowest kinds.End = nothing_lowest

  op_lowest : (token : Option Token) → IsLowest (op_value token p q)
  op_lowest None = nothing_lowest
  op_lowest (Some token) = op_kind_lowest token.kind

-- the values that names have can be written
abbrev AreNamed : (ℕ → Outcome Rate) → Type 0
AreNamed named = (i : ℕ) (rate : Rate) → named i ≡ Good rate → IsWrittenRate rate

inner_written : (at : ℕ) (outcome : Outcome Rate) (q : Fraction) → ((rate : Rate) → outcome ≡ Good rate → IsWrittenRate rate) → inner_name at outcome ≡ Good q → IsProper q
inner_written at (Good (Active p)) q each e = subst IsProper (same_good p q e) (each (Active p) refl)
inner_written at (Good (Passive p)) q each e = absurd cc
inner_written at NoValue q each e = absurd cc
inner_written at (BadAt i) q each e = absurd cc

module _ (tokens : List Token) (named : ℕ → Outcome Rate) (each : AreNamed named) where
  combined_written : (at : ℕ) (x y : Outcome Fraction) (r : Fraction) → ((q : Fraction) → x ≡ Good q → IsProper q) → ((q : Fraction) → y ≡ Good q → IsProper q) → combined_outcome tokens at x y ≡ Good r → IsProper r
  combined_written at (Good p) (Good q) r left right e = good_fine at (op_value (slice_get tokens at) p q) r (op_lowest p q (left p refl) (right q refl) (slice_get tokens at)) e
  combined_written at (Good p) NoValue r left right e = absurd cc
  combined_written at (Good p) (BadAt i) r left right e = absurd cc
  combined_written at NoValue (Good q) r left right e = absurd cc
  combined_written at NoValue NoValue r left right e = absurd cc
  combined_written at NoValue (BadAt i) r left right e = absurd cc
  combined_written at (BadAt i) y r left right e = absurd cc

  sum_written : (rate : RateNode) (q : Fraction) → sum_outcome tokens named rate ≡ Good q → IsProper q
  sum_written (NumberAt at) q e = good_fine at (number_value (slice_get tokens at)) q (number_lowest (slice_get tokens at)) e
  sum_written (NameAt at) q e = inner_written at (named at) q (each at) e
  sum_written (TopAt weight at) q e = absurd cc
  sum_written (OpAt at left right) q e = combined_written at (sum_outcome tokens named left) (sum_outcome tokens named right) q (sum_written left) (sum_written right) e
  sum_written (BracketOf inner) q e = sum_written inner q e

  active_written : (x : Outcome Fraction) (rate : Rate) → ((q : Fraction) → x ≡ Good q → IsProper q) → active_outcome x ≡ Good rate → IsWrittenRate rate
  active_written (Good q) rate from e = subst IsWrittenRate (same_good (Active q) rate e) (from q refl)
  active_written NoValue rate from e = absurd cc
  active_written (BadAt i) rate from e = absurd cc

  weight_written : (at : ℕ) (q : Fraction) (rate : Rate) → IsLowest q → weight_outcome at q ≡ Good rate → IsWrittenRate rate
  weight_written at q rate low e = by (is_fine q && nat_eq q.den 1) refl e
    where
      by : (b : Bool) → is_fine q && nat_eq q.den 1 ≡ b → (if b then Good (Passive q) else BadAt at) ≡ Good rate → IsWrittenRate rate
      by true h k =
          let tests = both_true (is_fine q) (nat_eq q.den 1) h in
          let whole : q.den ≡ 1 = grind (arith, nat_tests, tests.1) in
          subst IsWrittenRate (same_good (Passive q) rate k) (proper q low tests.0, whole)
      by false h k = absurd cc

  pub rate_written : (node : RateNode) (rate : Rate) → rate_outcome tokens named node ≡ Good rate → IsWrittenRate rate
  rate_written (NameAt at) rate e = each at rate e
  rate_written (TopAt None at) rate e = subst IsWrittenRate (same_good (Passive (record { num = 1; den = 1 })) rate e) (one_proper, refl)
  rate_written (TopAt (Some weight) at) rate e = weight_written weight (number_value (slice_get tokens weight)) rate (number_lowest (slice_get tokens weight)) e
  rate_written (NumberAt at) rate e = active_written (sum_outcome tokens named (NumberAt at)) rate (sum_written (NumberAt at)) e
  rate_written (OpAt at left right) rate e = active_written (sum_outcome tokens named (OpAt at left right)) rate (sum_written (OpAt at left right)) e
  rate_written (BracketOf inner) rate e = active_written (sum_outcome tokens named (BracketOf inner)) rate (sum_written (BracketOf inner)) e

-- ---- rate lines

abbrev AreWritten : List (Outcome Rate) → Type 0
AreWritten outcomes = (k : ℕ) (rate : Rate) → slice_get outcomes k ≡ Some (Good rate) → IsWrittenRate rate

value_written : (outcome : Outcome Rate) (rate : Rate) → value_of outcome ≡ Good rate → outcome ≡ Good rate
value_written (Good r) rate e = e
value_written NoValue rate e = absurd cc
value_written (BadAt i) rate e = absurd cc

looked_written : (name : ℕ → List ℕ) (lines : List RateLineNode) (outcomes : List (Outcome Rate)) → AreWritten outcomes → AreNamed (looked_up name lines outcomes)
looked_written name [] outcomes are i rate e = absurd cc
looked_written name (line ∷ lines) [] are i rate e = absurd cc
looked_written name (line ∷ lines) (outcome ∷ outcomes) are i rate e =
    by (pointwise nat_eq (name line.line_at) (name i)) e (looked_written name lines outcomes (λ k r h. are (suc k) r h) i rate)
  where
    by : (b : Bool) → (if b then value_of outcome else looked_up name lines outcomes i) ≡ Good rate → (looked_up name lines outcomes i ≡ Good rate → IsWrittenRate rate) → IsWrittenRate rate
    by true h rest = are 0 rate (ap Some (value_written outcome rate h))
    by false h rest = rest h

taken : {X : Type 0} (xs : List X) (n k : ℕ) (x : X) → slice_get (take n xs) k ≡ Some x → (k < n) × (slice_get xs k ≡ Some x)
taken [] zero k x at = absurd (cc)
taken [] (suc n) k x at = absurd (cc)
taken (y ∷ ys) zero k x at = absurd (cc)
taken (y ∷ ys) (suc n) zero x at = (omega arith, at)
taken (y ∷ ys) (suc n) (suc k) x at = let rest = taken ys n k x at in let lt = rest.0 in (omega arith, rest.1)

line_at : {X : Type 0} (xs : List X) (k : ℕ) → k < length xs → (x : X) × (slice_get xs k ≡ Some x)
line_at [] k lt = absurd (omega arith)
line_at (x ∷ xs) zero lt = (x, refl)
line_at (x ∷ xs) (suc k) lt = line_at xs k (omega arith)

module _ (tokens : List Token) (name : ℕ → List ℕ) (lines : List RateLineNode) (outcomes : List (Outcome Rate)) (are : AreOutcomes tokens name lines outcomes) where
  below : (n k : ℕ) (rate : Rate) → k < n → slice_get outcomes k ≡ Some (Good rate) → IsWrittenRate rate
  below zero k rate lt at = absurd (omega arith)
  below (suc n) k rate lt at =
      let within = slice_get_within outcomes k (Good rate) at in
      let count = are.count in
      let line = line_at lines k (omega arith) in
      let outcome = rate_outcome tokens (looked_up name (take k lines) (take k outcomes)) line.0.rate in
      let is : outcome ≡ Good rate = same_Some outcome (Good rate) (sym (are.each k line.0 line.1) ∙ at) in
      rate_written tokens (looked_up name (take k lines) (take k outcomes))
      (looked_written name (take k lines) (take k outcomes) (λ j r h. let front = taken outcomes k j (Good r) h in let first = front.0 in below n j r (omega arith) front.1))
      line.0.rate rate is

  lines_written : AreWritten outcomes
  lines_written k rate at = below (suc k) k rate (omega arith) at

  -- the rate of an activity
  pub activity_written : (node : RateNode) → IsWrittenRate (rate_of_outcome (rate_outcome tokens (looked_up name lines outcomes) node))
  activity_written node = by (rate_outcome tokens (looked_up name lines outcomes) node) (rate_written tokens (looked_up name lines outcomes) (looked_written name lines outcomes lines_written) node)
    where
      by : (outcome : Outcome Rate) → ((rate : Rate) → outcome ≡ Good rate → IsWrittenRate rate) → IsWrittenRate (rate_of_outcome outcome)
      by (Good rate) each = each rate refl
      by NoValue each = (one_proper, refl)
      by (BadAt i) each = (one_proper, refl)
