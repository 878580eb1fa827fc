-- The values of the rate lines of a file where no rate is refused.
use Rattle.std.specs.Prelude.{◌≡◌, ℕ, List, map, Some, slice_get}
use Rattle.pepa_rates.specs.declared.rate.Rate.{Rate}
use Rattle.pepa_lexer.specs.declared.kinds.Token.{Token}
use Rattle.pepa_reader.specs.Trees.{FileNode}
use Rattle.pepa_resolver.specs.Outcomes.{Outcome, Good, AreOutcomes, BadRateAt}

-- every outcome is a value
abbrev pub AreGood : List (Outcome Rate) → Type 0
AreGood outcomes = (k : ℕ) (outcome : Outcome Rate) → slice_get outcomes k ≡ Some outcome → (rate : Rate) × (outcome ≡ Good rate)

-- the values of the rate lines, in a file where no rate is refused
pub record AreRates (tokens : List Token) (name : ℕ → List ℕ) (file : FileNode) (rates : List Rate) : Type 0 where
  pub lines : AreOutcomes tokens name file.rates (map Good rates)
  pub fine : (start i : ℕ) → ¬ BadRateAt tokens name file (map Good rates) start i
