-- The program's numbering, in the definitions' words.
use Rattle.std.specs.Prelude.{ℕ, if◌then◌else◌, List, [], ◌∷◌, ◌++◌, map, fold, bytes_eq}
use Rattle.std.specs.List.{list_any}
use Rattle.indexmap.specs.IndexMap.{keys}
use Rattle.pepa_rates.specs.declared.rate.Rate.{Rate}
use Rattle.pepa_reader.specs.Trees.{RateNode, ProcessLineNode}
use Rattle.pepa_resolver.specs.declared.numbers.Numbers.{Numbers}
use Rattle.pepa_resolver.specs.Outcomes.{Outcome, rate_outcome}
use Rattle.pepa_resolver.specs.Values.{tokens_of, rate_name_at, named_outcome}
use Rattle.pepa_resolver.specs.Named.{Naming, Named, named}
use Rattle.pepa_resolver.specs.Numbers.{place_in, rate_of_outcome}

-- the names, with this one behind the others unless it is there
abbrev pub with_name : List (List ℕ) → List ℕ → List (List ℕ)
with_name names name = if list_any (bytes_eq name) names then names else names ++ name ∷ []

-- the names, with these behind the others, one after another
abbrev pub with_names : List (List ℕ) → List (List ℕ) → List (List ℕ)
with_names names more = fold with_name names more

-- what the rate of an activity comes to
abbrev pub outcome_by : Numbers → RateNode → Outcome Rate
outcome_by numbers rate = rate_outcome (tokens_of numbers.rates) (named_outcome numbers.rates) rate

-- what the program puts in place of names
abbrev pub naming_by : Numbers → Naming
naming_by numbers = record {
  constant = λ i. place_in (keys numbers.constants.now) (rate_name_at numbers.rates i);
  action = λ i. place_in (keys numbers.actions.now) (rate_name_at numbers.rates i);
  rate_of = λ rate. rate_of_outcome (outcome_by numbers rate);
}

-- the right sides of lines with numbers in place of names
abbrev pub bodies_by : Naming → List ProcessLineNode → List Named
bodies_by naming lines = map (λ line. named naming line.body) lines
