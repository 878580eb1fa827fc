-- The program's values of rates, in the definitions' words.
use Rattle.std.specs.Prelude.{◌≡◌, ℕ, ◌^◌, ◌≤◌, ◌<◌, List, [], ◌∷◌, map, Option, Some, None, slice_get, nat_eq, if◌then◌else◌, Result, Ok, Err}
use Rattle.std.specs.Cmp.Lexicographic.{pointwise}
use Rattle.pepa_rates.specs.declared.rate.Rate.{Rate}
use Rattle.pepa_lexer.specs.declared.kinds.Token.{Token}
use Rattle.pepa_lexer.specs.declared.kinds.Kind.TheVariants.{Number}
use Rattle.pepa_resolver.specs.declared.values.Unvalued.{Unvalued}
use Rattle.pepa_resolver.specs.declared.values.Unvalued.TheVariants as unvalued
use Rattle.indexmap.specs.IndexMap.{keys}
use Rattle.pepa_resolver.specs.declared.values.Rates.{Rates}
use Rattle.pepa_resolver.specs.Sources.{name_in}
use Rattle.pepa_resolver.specs.Outcomes.{Outcome, Good, NoValue, BadAt, value_of}

-- what evaluating came to
abbrev pub outcome_of : {X : Type 0} → Result X Unvalued → Outcome X
outcome_of (Ok x) = Good x
outcome_of (Err unvalued.NoValue) = NoValue
outcome_of (Err (unvalued.BadAt i)) = BadAt i

-- the outcome that a name has by its line, of which there may be no value yet
abbrev pub line_value : Option (Result Rate Unvalued) → Outcome Rate
line_value None = NoValue
line_value (Some value) = value_of (outcome_of value)

-- the outcome of the first of these names that is this one, where the names so far have these outcomes
abbrev pub named_in : List (List ℕ) → List (Outcome Rate) → List ℕ → Outcome Rate
named_in [] outcomes name = NoValue
named_in (key ∷ keys) [] name = NoValue
named_in (key ∷ keys) (outcome ∷ outcomes) name = if pointwise nat_eq name key then value_of outcome else named_in keys outcomes name

-- the numbers among the tokens have at most 30 digits
abbrev pub AreSmall : List Token → Type 0
AreSmall tokens =
    (i : ℕ) (token : Token) (digits scale : ℕ) → slice_get tokens i ≡ Some token → token.kind ≡ Number digits scale → (digits < 10 ^ 30) × (scale ≤ 30)

abbrev pub tokens_of : Rates → List Token
tokens_of rates = rates.source.tokens.now

-- the name at an index
abbrev pub rate_name_at : Rates → ℕ → List ℕ
rate_name_at rates = name_in rates.source

-- the outcome of the rate that the name at an index has
abbrev pub named_outcome : Rates → ℕ → Outcome Rate
named_outcome rates i = named_in (keys rates.names.now) (map outcome_of rates.values.now) (rate_name_at rates i)
