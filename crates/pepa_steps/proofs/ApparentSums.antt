-- Sums of apparent rates, and of shares of them.
use Rattle.std.proofs.Common.{◌≡◌, ◌<◌, ◌+◌, ◌*◌, Bool, true, false, not, if◌then◌else◌, refl, sym, ◌∙◌, ap, arith}
use Rattle.std.specs.Bool.{⊤}
use Rattle.std.proofs.Math.Nat.{mul-pos}
use Rattle.pepa_rates.specs.Fraction.{Fraction, gcd, IsPositive, IsProper}
use Rattle.pepa_rates.specs.Sum.{sum_of, rate_sum, fraction_of}
use Rattle.pepa_rates.specs.Share.{least_of, with_fraction, share_of}
use Rattle.pepa_rates.specs.declared.rate.Rate.{Rate}
use Rattle.pepa_rates.specs.declared.rate.Rate.TheVariants.{Active, Passive}
use Rattle.pepa_rates.proofs.LowestTerms.{reduced-lowest}
use Rattle.pepa_rates.proofs.Sums.{sum_of-positive, sum_of-assoc}
use Rattle.pepa_rates.proofs.Shares.{fraction_share, share-whole}
use Rattle.pepa_rates.proofs.Lesser.{least-keeps}
use Rattle.pepa_model.specs.Apparent.{Apparent, NoRate, Rated, Undefined, together, apparent_of_sum, IsFine}
use Rattle.pepa_steps.specs.OpenStates.{least_if_both, rate_of}
use Rattle.pepa_steps.proofs.ShareSums.{first-sum, second-sum, least-positive}

-- ---- what holds of apparent rates

abbrev pub IsPositiveRate : Apparent → Type 0
IsPositiveRate NoRate = ⊤
IsPositiveRate (Rated r) = IsPositive (fraction_of r)
IsPositiveRate Undefined = ⊤

-- positive and in lowest terms
abbrev pub IsLowest : Fraction → Type 0
IsLowest q = IsPositive q × (gcd q.num q.den ≡ 1)

abbrev pub IsLowestRate : Apparent → Type 0
IsLowestRate NoRate = ⊤
IsLowestRate (Rated r) = IsLowest (fraction_of r)
IsLowestRate Undefined = ⊤

abbrev pub IsDefined : Apparent → Type 0
IsDefined NoRate = ⊤
IsDefined (Rated r) = ⊤
IsDefined Undefined = ⊥

-- defined, and a fraction of the program
abbrev pub IsProperRate : Apparent → Type 0
IsProperRate NoRate = ⊤
IsProperRate (Rated r) = IsProper (fraction_of r)
IsProperRate Undefined = ⊥

pub lowest_positive : (x : Apparent) → IsLowestRate x → IsPositiveRate x
lowest_positive NoRate h = tt
lowest_positive (Rated r) h = h.0
lowest_positive Undefined h = tt

pub proper_defined : (x : Apparent) → IsProperRate x → IsDefined x
proper_defined NoRate h = tt
proper_defined (Rated r) h = tt
proper_defined Undefined h = h

pub fine_proper : (x : Apparent) → IsFine x → IsLowestRate x → IsProperRate x
fine_proper NoRate fine low = tt
fine_proper (Rated r) fine low = record { positive = low.0.0; over_positive = low.0.1; lowest = low.1; in_range = fine }
fine_proper Undefined fine low = fine

pub rate_of-positive : (x : Apparent) → IsPositiveRate x → IsPositive (fraction_of (rate_of x))
rate_of-positive NoRate h = (omega arith, omega arith)
rate_of-positive (Rated r) h = h
rate_of-positive Undefined h = (omega arith, omega arith)

-- ---- sums

lowest_sum : (p q : Fraction) → IsPositive p → IsPositive q → IsLowest (sum_of p q)
lowest_sum p q h k =
    let some : 0 < p.num * q.den = mul-pos h.0 k.1 in
    (sum_of-positive p q h k, reduced-lowest (p.num * q.den + q.num * p.den) (p.den * q.den) (omega (arith, some)))

pub together-positive : (x y : Apparent) → IsPositiveRate x → IsPositiveRate y → IsPositiveRate (together x y)
together-positive NoRate y h k = k
together-positive (Rated r) NoRate h k = h
together-positive (Rated (Active p)) (Rated (Active q)) h k = sum_of-positive p q h k
together-positive (Rated (Passive p)) (Rated (Passive q)) h k = sum_of-positive p q h k
together-positive (Rated (Active p)) (Rated (Passive q)) h k = tt
together-positive (Rated (Passive p)) (Rated (Active q)) h k = tt
together-positive (Rated r) Undefined h k = tt
together-positive Undefined y h k = tt

pub together-lowest : (x y : Apparent) → IsLowestRate x → IsLowestRate y → IsLowestRate (together x y)
together-lowest NoRate y h k = k
together-lowest (Rated r) NoRate h k = h
together-lowest (Rated (Active p)) (Rated (Active q)) h k = lowest_sum p q h.0 k.0
together-lowest (Rated (Passive p)) (Rated (Passive q)) h k = lowest_sum p q h.0 k.0
together-lowest (Rated (Active p)) (Rated (Passive q)) h k = tt
together-lowest (Rated (Passive p)) (Rated (Active q)) h k = tt
together-lowest (Rated r) Undefined h k = tt
together-lowest Undefined y h k = tt

pub least_if_both-lowest : (x y : Apparent) → IsLowestRate x → IsLowestRate y → IsLowestRate (least_if_both x y)
least_if_both-lowest NoRate y h k = tt
least_if_both-lowest (Rated r) NoRate h k = tt
least_if_both-lowest (Rated r) (Rated s) h k = least-keeps (λ x. IsLowest (fraction_of x)) r s h k
least_if_both-lowest (Rated r) Undefined h k = tt
least_if_both-lowest Undefined NoRate h k = tt
least_if_both-lowest Undefined (Rated s) h k = tt
least_if_both-lowest Undefined Undefined h k = tt

pub together-none : (x : Apparent) → together x NoRate ≡ x
together-none NoRate = refl
together-none (Rated r) = refl
together-none Undefined = refl

three_rates : (r s t : Rate) → IsPositive (fraction_of r) → IsPositive (fraction_of s) → IsPositive (fraction_of t)
    → together (together (Rated r) (Rated s)) (Rated t) ≡ together (Rated r) (together (Rated s) (Rated t))
three_rates (Active p) (Active q) (Active r) h k l = ap (λ x. Rated (Active x)) (sum_of-assoc p q r h k l)
three_rates (Active p) (Active q) (Passive r) h k l = refl
three_rates (Active p) (Passive q) (Active r) h k l = refl
three_rates (Active p) (Passive q) (Passive r) h k l = refl
three_rates (Passive p) (Active q) (Active r) h k l = refl
three_rates (Passive p) (Active q) (Passive r) h k l = refl
three_rates (Passive p) (Passive q) (Active r) h k l = refl
three_rates (Passive p) (Passive q) (Passive r) h k l = ap (λ x. Rated (Passive x)) (sum_of-assoc p q r h k l)

sum_undefined : (r s : Rate) → together (apparent_of_sum (rate_sum r s)) Undefined ≡ Undefined
sum_undefined (Active p) (Active q) = refl
sum_undefined (Active p) (Passive q) = refl
sum_undefined (Passive p) (Active q) = refl
sum_undefined (Passive p) (Passive q) = refl

pub together-assoc : (x y z : Apparent) → IsPositiveRate x → IsPositiveRate y → IsPositiveRate z → together (together x y) z ≡ together x (together y z)
together-assoc NoRate y z h k l = refl
together-assoc (Rated r) NoRate z h k l = refl
together-assoc (Rated r) (Rated s) NoRate h k l = together-none (together (Rated r) (Rated s))
together-assoc (Rated r) (Rated s) (Rated t) h k l = three_rates r s t h k l
together-assoc (Rated r) (Rated s) Undefined h k l = sum_undefined r s
together-assoc (Rated r) Undefined z h k l = refl
together-assoc Undefined y z h k l = refl

pub right_defined : (x y : Apparent) → IsDefined (together x y) → IsDefined y
right_defined x NoRate h = tt
right_defined x (Rated s) h = tt
right_defined NoRate Undefined h = h
right_defined (Rated r) Undefined h = h
right_defined Undefined Undefined h = h

-- ---- a function of the rate

abbrev pub scaled : (Rate → Rate) → Apparent → Apparent
scaled f NoRate = NoRate
scaled f (Rated r) = Rated (f r)
scaled f Undefined = Undefined

-- the function of a sum is the sum of the functions
abbrev pub IsAdditive : (Rate → Rate) → Type 0
IsAdditive f =
    (r s : Rate) → IsPositive (fraction_of r) → IsPositive (fraction_of s) → IsDefined (together (Rated r) (Rated s))
    → scaled f (together (Rated r) (Rated s)) ≡ together (Rated (f r)) (Rated (f s))

pub scaled-together : (f : Rate → Rate) → IsAdditive f → (x y : Apparent) → IsPositiveRate x → IsPositiveRate y → IsDefined (together x y)
    → scaled f (together x y) ≡ together (scaled f x) (scaled f y)
scaled-together f additive NoRate y h k defined = refl
scaled-together f additive (Rated r) NoRate h k defined = refl
scaled-together f additive (Rated r) (Rated s) h k defined = additive r s h k defined
scaled-together f additive (Rated r) Undefined h k defined = refl
scaled-together f additive Undefined y h k defined = refl

with_sum : (l : Rate) (p q : Fraction) → apparent_of_sum (rate_sum (with_fraction l p) (with_fraction l q)) ≡ Rated (with_fraction l (sum_of p q))
with_sum (Active l) p q = refl
with_sum (Passive l) p q = refl

module _ (ra rb : Rate) (ha : IsPositive (fraction_of ra)) (hb : IsPositive (fraction_of rb)) where
  abbrev l : Rate
  l = least_of ra rb

  abbrev share : Fraction → Fraction → Fraction
  share p q = fraction_share p (fraction_of ra) q (fraction_of rb) (fraction_of l)

  abbrev rated : Fraction → Apparent
  rated x = Rated (with_fraction l x)

  of_first : (p r q : Fraction) → IsPositive p → IsPositive r → IsPositive q
      → rated (share (sum_of p r) q) ≡ apparent_of_sum (rate_sum (with_fraction l (share p q)) (with_fraction l (share r q)))
  of_first p r q hp hr hq =
      ap rated (first-sum (fraction_of ra) (fraction_of rb) (fraction_of l) ha hb (least-positive ra rb ha hb) p r q hp hr hq) ∙ sym (with_sum l (share p q) (share r q))

  of_second : (p q r : Fraction) → IsPositive p → IsPositive q → IsPositive r
      → rated (share p (sum_of q r)) ≡ apparent_of_sum (rate_sum (with_fraction l (share p q)) (with_fraction l (share p r)))
  of_second p q r hp hq hr =
      ap rated (second-sum (fraction_of ra) (fraction_of rb) (fraction_of l) ha hb (least-positive ra rb ha hb) p q r hp hq hr) ∙ sym (with_sum l (share p q) (share p r))

  pub first-additive : (r2 : Rate) → IsPositive (fraction_of r2) → IsAdditive (λ r. share_of r ra r2 rb)
  first-additive r2 h2 (Active p) (Active q) h k defined = of_first p q (fraction_of r2) h k h2
  first-additive r2 h2 (Passive p) (Passive q) h k defined = of_first p q (fraction_of r2) h k h2
  first-additive r2 h2 (Active p) (Passive q) h k defined = absurd defined
  first-additive r2 h2 (Passive p) (Active q) h k defined = absurd defined

  pub second-additive : (r1 : Rate) → IsPositive (fraction_of r1) → IsAdditive (λ r. share_of r1 ra r rb)
  second-additive r1 h1 (Active p) (Active q) h k defined = of_second (fraction_of r1) p q h1 h k
  second-additive r1 h1 (Passive p) (Passive q) h k defined = of_second (fraction_of r1) p q h1 h k
  second-additive r1 h1 (Active p) (Passive q) h k defined = absurd defined
  second-additive r1 h1 (Passive p) (Active q) h k defined = absurd defined

-- ---- both sides of a cooperation

-- the sum of the shares of all pairs, where ra is the apparent rate on the left, x the sum on the left, and y that on the right
abbrev pub in_all : Rate → Apparent → Apparent → Apparent
in_all ra NoRate x = NoRate
in_all ra (Rated rb) x = scaled (λ r. share_of r ra rb rb) x
in_all ra Undefined x = NoRate

pub in_all-together : (ra : Rate) (y x z : Apparent) → IsPositive (fraction_of ra) → IsPositiveRate y → IsPositiveRate x → IsPositiveRate z → IsDefined (together x z)
    → in_all ra y (together x z) ≡ together (in_all ra y x) (in_all ra y z)
in_all-together ra NoRate x z ha hy hx hz defined = refl
in_all-together ra (Rated rb) x z ha hy hx hz defined = scaled-together (λ r. share_of r ra rb rb) (first-additive ra rb ha hy rb hy) x z hx hz defined
in_all-together ra Undefined x z ha hy hx hz defined = refl

pub in_all-none : (ra : Rate) (y : Apparent) → in_all ra y NoRate ≡ NoRate
in_all-none ra NoRate = refl
in_all-none ra (Rated rb) = refl
in_all-none ra Undefined = refl

in_all-whole : (x y : Apparent) → IsProperRate x → IsProperRate y → in_all (rate_of x) y x ≡ least_if_both x y
in_all-whole NoRate NoRate h k = refl
in_all-whole NoRate (Rated s) h k = refl
in_all-whole NoRate Undefined h k = absurd k
in_all-whole (Rated r) NoRate h k = refl
in_all-whole (Rated r) (Rated s) h k = ap Rated (share-whole r s h k)
in_all-whole (Rated r) Undefined h k = absurd k
in_all-whole Undefined y h k = absurd h

-- outside the set each side's sum stays, and inside it the shares add up to the lesser rate
pub both_sides : (b : Bool) (x y : Apparent) → IsProperRate x → IsProperRate y
    → together (together (if not b then x else NoRate) (if not b then y else NoRate)) (in_all (rate_of x) y (if b then x else NoRate))
    ≡ (if b then least_if_both x y else together x y)
both_sides true x y h k = in_all-whole x y h k
both_sides false x y h k = ap (together (together x y)) (in_all-none (rate_of x) y) ∙ together-none (together x y)
