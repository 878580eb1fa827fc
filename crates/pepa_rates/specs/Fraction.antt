-- Exact positive fractions in lowest terms.
use Rattle.std.specs.Prelude.{◌≡◌, ℕ, zero, suc, ◌+◌, ◌*◌, ◌/◌, ◌%◌, ◌^◌, ◌<◌}

-- a fraction: its numerator and its denominator
pub record Fraction : Type 0 where
  pub num : ℕ
  pub den : ℕ

-- Euclid's algorithm (Elements VII.2), in at most so many divisions
unfoldable pub gcd_within : ℕ → ℕ → ℕ → ℕ
gcd_within zero a b = a
gcd_within (suc steps) a zero = a
gcd_within (suc steps) a (suc b) = gcd_within steps (suc b) (a % suc b)

-- the greatest common divisor: each division leaves a smaller remainder, so b + 1 of them are enough
unfoldable pub gcd : ℕ → ℕ → ℕ
gcd a b = gcd_within (b + 1) a b

-- n/d in lowest terms: the one form of this number
unfoldable pub reduced : ℕ → ℕ → Fraction
reduced n d = record { num = n / gcd n d; den = d / gcd n d }

-- numerator and denominator are below 2^42
abbrev pub InRange : Fraction → Type 0
InRange q = (q.num < 2 ^ 42) × (q.den < 2 ^ 42)

-- two fractions are the same number: their cross products are equal
abbrev pub SameNumber : Fraction → Fraction → Type 0
SameNumber p q = p.num * q.den ≡ q.num * p.den

-- numerator and denominator are at least 1
abbrev pub IsPositive : Fraction → Type 0
IsPositive q = (0 < q.num) × (0 < q.den)

-- what every fraction of the program is: positive, in lowest terms, and in range
pub record IsProper (q : Fraction) : Type 0 where
  pub positive : 0 < q.num
  pub over_positive : 0 < q.den
  pub lowest : gcd q.num q.den ≡ 1
  pub in_range : InRange q
