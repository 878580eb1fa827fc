-- The values of rates: exact fractions, from the parts to the whole, the left part first.
use Rattle.std.specs.Prelude.{◌≡◌, ℕ, ◌-◌, ◌*◌, ◌^◌, ◌<◌, Bool, ◌&&◌, nat_lt, nat_eq, if◌then◌else◌, ◌⊎◌, List, [], ◌∷◌, length, take, Option, Some, None, slice_get}
use Rattle.std.specs.List.{Contains}
use Rattle.std.specs.Cmp.Lexicographic.{pointwise}
use Rattle.pepa_rates.specs.Fraction.{Fraction, reduced}
use Rattle.pepa_rates.specs.Sum.{sum_of}
use Rattle.pepa_rates.specs.declared.rate.Rate.{Rate}
use Rattle.pepa_rates.specs.declared.rate.Rate.TheVariants.{Active, Passive}
use Rattle.pepa_lexer.specs.declared.kinds.Token.{Token}
use Rattle.pepa_lexer.specs.declared.kinds.Kind.{Kind}
use Rattle.pepa_lexer.specs.declared.kinds.Kind.TheVariants as kinds
use Rattle.pepa_lexer.specs.declared.kinds.Sign.{Sign}
use Rattle.pepa_lexer.specs.declared.kinds.Sign.TheVariants.{Plus, Minus, Star, Slash}
use Rattle.pepa_reader.specs.Trees.{RateNode, NumberAt, NameAt, TopAt, OpAt, BracketOf, RateLineNode, ProcessNode, FileNode}
use Rattle.pepa_resolver.specs.Parts.{RateSite, rates_in, processes_of}

-- what evaluating comes to: a value, none since a rate line that it needs is refused, or a refusal at an index
pub data Outcome (X : Type 0) : Type 0 where
  Good : X → Outcome X
  NoValue : Outcome X
  BadAt : ℕ → Outcome X

-- a positive fraction in range
abbrev pub is_fine : Fraction → Bool
is_fine q = nat_lt 0 q.num && (nat_lt q.num (2 ^ 42) && nat_lt q.den (2 ^ 42))

-- the value at an index, if it is one
abbrev pub fine_at : ℕ → Fraction → Outcome Fraction
fine_at at q = if is_fine q then Good q else BadAt at

-- the value of a number: its digits, with the point before the last `scale` of them
abbrev pub kind_value : Kind → Fraction
kind_value (kinds.Number digits scale) = reduced digits (10 ^ scale)
kind_value _ = record { num = 0; den = 1 }

abbrev pub number_value : Option Token → Fraction
number_value None = record { num = 0; den = 1 }
number_value (Some token) = kind_value token.kind

-- the value of an operator's sides together; a difference that isn't positive is 0
abbrev pub sign_value : Sign → Fraction → Fraction → Fraction
sign_value Plus p q = sum_of p q
sign_value Minus p q = reduced (p.num * q.den - q.num * p.den) (p.den * q.den)
sign_value Star p q = reduced (p.num * q.num) (p.den * q.den)
sign_value Slash p q = reduced (p.num * q.den) (p.den * q.num)
sign_value _ p q = record { num = 0; den = 1 }

abbrev pub op_kind_value : Kind → Fraction → Fraction → Fraction
op_kind_value (kinds.Sign sign) p q = sign_value sign p q
op_kind_value _ p q = record { num = 0; den = 1 }

abbrev pub op_value : Option Token → Fraction → Fraction → Fraction
op_value None p q = record { num = 0; den = 1 }
op_value (Some token) p q = op_kind_value token.kind p q

-- a name's value beside an operator or in brackets: a passive rate is refused there
abbrev pub inner_name : ℕ → Outcome Rate → Outcome Fraction
inner_name at (Good (Active q)) = Good q
inner_name at (Good (Passive q)) = BadAt at
inner_name at NoValue = NoValue
inner_name at (BadAt i) = NoValue

-- both sides of an operator, the left one first; where one has no value, the operator isn't judged
abbrev pub combined_outcome : List Token → ℕ → Outcome Fraction → Outcome Fraction → Outcome Fraction
combined_outcome tokens at (BadAt i) y = BadAt i
combined_outcome tokens at (Good p) (BadAt i) = BadAt i
combined_outcome tokens at NoValue (BadAt i) = BadAt i
combined_outcome tokens at (Good p) (Good q) = fine_at at (op_value (slice_get tokens at) p q)
combined_outcome tokens at (Good p) NoValue = NoValue
combined_outcome tokens at NoValue (Good q) = NoValue
combined_outcome tokens at NoValue NoValue = NoValue

-- a sum, product or part of one, where `named` gives the outcome of the rate that the name at an index has
abbrev pub sum_outcome : List Token → (ℕ → Outcome Rate) → RateNode → Outcome Fraction
sum_outcome tokens named (NumberAt at) = fine_at at (number_value (slice_get tokens at))
sum_outcome tokens named (NameAt at) = inner_name at (named at)
sum_outcome tokens named (TopAt weight at) = BadAt at
sum_outcome tokens named (OpAt at left right) = combined_outcome tokens at (sum_outcome tokens named left) (sum_outcome tokens named right)
sum_outcome tokens named (BracketOf inner) = sum_outcome tokens named inner

abbrev pub active_outcome : Outcome Fraction → Outcome Rate
active_outcome (Good q) = Good (Active q)
active_outcome NoValue = NoValue
active_outcome (BadAt i) = BadAt i

-- a weight is a whole number
abbrev pub weight_outcome : ℕ → Fraction → Outcome Rate
weight_outcome at q = if is_fine q && nat_eq q.den 1 then Good (Passive q) else BadAt at

-- a whole rate: a name alone has the rate of its line, which may be passive
abbrev pub rate_outcome : List Token → (ℕ → Outcome Rate) → RateNode → Outcome Rate
rate_outcome tokens named (NameAt at) = named at
rate_outcome tokens named (TopAt None at) = Good (Passive (record { num = 1; den = 1 }))
rate_outcome tokens named (TopAt (Some weight) at) = weight_outcome weight (number_value (slice_get tokens weight))
rate_outcome tokens named (NumberAt at) = active_outcome (sum_outcome tokens named (NumberAt at))
rate_outcome tokens named (OpAt at left right) = active_outcome (sum_outcome tokens named (OpAt at left right))
rate_outcome tokens named (BracketOf inner) = active_outcome (sum_outcome tokens named (BracketOf inner))

-- a refused line gives its name no value
abbrev pub value_of : Outcome Rate → Outcome Rate
value_of (Good rate) = Good rate
value_of NoValue = NoValue
value_of (BadAt i) = NoValue

-- the value that the lines give the name at an index, of which line i has outcome i
abbrev pub looked_up : (ℕ → List ℕ) → List RateLineNode → List (Outcome Rate) → ℕ → Outcome Rate
looked_up name [] outcomes i = NoValue
looked_up name (line ∷ lines) [] i = NoValue
looked_up name (line ∷ lines) (outcome ∷ outcomes) i =
    if pointwise nat_eq (name line.line_at) (name i) then value_of outcome else looked_up name lines outcomes i

-- the outcomes of the rate lines, each from those above it
pub record AreOutcomes (tokens : List Token) (name : ℕ → List ℕ) (lines : List RateLineNode) (outcomes : List (Outcome Rate)) : Type 0 where
  pub count : length outcomes ≡ length lines
  pub each : (k : ℕ) (line : RateLineNode) → slice_get lines k ≡ Some line → slice_get outcomes k ≡ Some (rate_outcome tokens (looked_up name (take k lines) (take k outcomes)) line.rate)

-- a rate that begins at `start`, that of a line by its name and that of an activity by its `(`, is refused at an index
abbrev pub BadRateAt : List Token → (ℕ → List ℕ) → FileNode → List (Outcome Rate) → ℕ → ℕ → Type 0
BadRateAt tokens name file outcomes start i =
    ((k : ℕ) × (line : RateLineNode) × (slice_get file.rates k ≡ Some line) × (line.line_at ≡ start) × (slice_get outcomes k ≡ Some (BadAt i)))
    ⊎ ((process : ProcessNode) × Contains (processes_of file) process
    × ((site : RateSite) × Contains (rates_in process) site × (site.site_at ≡ start) × (rate_outcome tokens (looked_up name file.rates outcomes) site.rate ≡ BadAt i)))

-- the first refusal: that of the rate that begins first
pub record IsFirstBadRate (tokens : List Token) (name : ℕ → List ℕ) (file : FileNode) (outcomes : List (Outcome Rate)) (i : ℕ) : Type 0 where
  pub start : ℕ
  pub bad : BadRateAt tokens name file outcomes start i
  pub first : (other j : ℕ) → BadRateAt tokens name file outcomes other j → ¬ (other < start)

-- the first refusal of the file, where its rate lines have the outcomes that they have
abbrev pub IsBadRateOf : List Token → (ℕ → List ℕ) → FileNode → ℕ → Type 0
IsBadRateOf tokens name file i =
    (outcomes : List (Outcome Rate)) × AreOutcomes tokens name file.rates outcomes × IsFirstBadRate tokens name file outcomes i
