-- Fractions as whole numbers over their least common denominator.
use Rattle.std.specs.Prelude.{◌≡◌, ℕ, ◌*◌, ◌/◌, ◌^◌, ◌<◌, List, map, fold, sum, All, Result, Ok, Err}
use Rattle.std.specs.Int.{◌∣◌}
use Rattle.pepa_rates.specs.Fraction.{Fraction, gcd}
use Rattle.pepa_rates.specs.declared.weight_list.Scale.{Scale}
use Rattle.pepa_rates.specs.declared.weight_list.Weights.{Weights}
use Rattle.pepa_rates.specs.declared.weight_list.WeightFault.{WeightFault}
use Rattle.pepa_rates.specs.declared.weight_list.WeightFault.TheVariants.{Overflow, Memory}

-- the least common multiple of two numbers: their product has their greatest common divisor once too often
unfoldable pub lcm : ℕ → ℕ → ℕ
lcm a b = a * b / gcd a b

-- the least common multiple of the denominators; 1 where there are none
abbrev pub common_den : List Fraction → ℕ
common_den rates = fold (λ m q. lcm m q.den) 1 rates

-- what the least common multiple of the denominators is: each of them divides it, and it divides every number that
-- each of them divides
pub record IsLeastCommonDen (rates : List Fraction) (m : ℕ) : Type 0 where
  pub multiple : All (λ q. q.den ∣ m) rates
  pub least : (n : ℕ) → All (λ q. q.den ∣ n) rates → m ∣ n

-- q * m, a whole number where q's denominator divides m
abbrev pub weight_of : ℕ → Fraction → ℕ
weight_of m q = q.num * m / q.den

-- each fraction times the least common multiple of the denominators
abbrev pub weights_of : List Fraction → List ℕ
weights_of rates = map (weight_of (common_den rates)) rates

-- the least common multiple and the sum of the weights are below 2^62
abbrev pub HaveWeights : List Fraction → Type 0
HaveWeights rates = (common_den rates < 2 ^ 62) × (sum (weights_of rates) < 2 ^ 62)

-- the result for these fractions: the weights, their sum and the denominator where both are below 2^62, else refused;
-- where memory ran out both are below it too
abbrev pub IsWeightsOf : List Fraction → Result Weights WeightFault → Type 0
IsWeightsOf rates (Ok w) = (w ≡ record { each = weights_of rates; whole = sum (weights_of rates); den = common_den rates }) × HaveWeights rates
IsWeightsOf rates (Err Overflow) = ¬ HaveWeights rates
IsWeightsOf rates (Err Memory) = HaveWeights rates

-- their sum and the denominator, where both are below 2^62, else refused; where memory ran out both are below it too
abbrev pub IsScaleOf : List Fraction → Result Scale WeightFault → Type 0
IsScaleOf rates (Ok scale) = (scale ≡ record { whole = sum (weights_of rates); den = common_den rates }) × HaveWeights rates
IsScaleOf rates (Err Overflow) = ¬ HaveWeights rates
IsScaleOf rates (Err Memory) = HaveWeights rates
