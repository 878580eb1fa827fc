-- Numbers that are whole by their value.
use Rattle.std.specs.Prelude.{◌≡◌, ℕ, ◌*◌, ◌^◌, ◌/◌, ◌≤◌, List, Option, Some, None, slice_get}
use Rattle.pepa_lexer.specs.declared.kinds.Token.{Token}
use Rattle.pepa_lexer.specs.declared.kinds.Kind.{Kind}
use Rattle.pepa_lexer.specs.declared.kinds.Kind.TheVariants.{Small, Capital, Number, Sign, End}

-- the kind is a number whose value, its digits over 10 to the power of its scale, is the whole number n
abbrev pub IsWholeNumber : Kind → ℕ → Type 0
IsWholeNumber (Number digits scale) n = digits ≡ n * 10 ^ scale
IsWholeNumber Small n = ⊥
IsWholeNumber Capital n = ⊥
IsWholeNumber (Sign sign) n = ⊥
IsWholeNumber End n = ⊥

-- at the index is a number with the whole value n
abbrev pub IsWholeAt : List Token → ℕ → ℕ → Type 0
IsWholeAt tokens at n = (token : Token) × (slice_get tokens at ≡ Some token) × IsWholeNumber token.kind n

-- at the index is a number whose value is whole and at most the limit
abbrev pub IsCountAt : List Token → ℕ → ℕ → Type 0
IsCountAt tokens limit at = (n : ℕ) × IsWholeAt tokens at n × (n ≤ limit)

-- the value of a number, rounded down: where it is whole, its value
abbrev pub whole_value : Kind → ℕ
whole_value (Number digits scale) = digits / 10 ^ scale
whole_value Small = 0
whole_value Capital = 0
whole_value (Sign sign) = 0
whole_value End = 0

abbrev pub whole_value_of : Option Token → ℕ
whole_value_of None = 0
whole_value_of (Some token) = whole_value token.kind

-- the value of the number at the index, rounded down
abbrev pub whole_at : List Token → ℕ → ℕ
whole_at tokens at = whole_value_of (slice_get tokens at)
