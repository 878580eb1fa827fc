-- The refused rate that begins first.
use Rattle.std.specs.Prelude.{◌≡◌, ℕ, ◌<◌, nat_lt, if◌then◌else◌, List, [], ◌∷◌, flat_map, Option, Some, None, slice_get}
use Rattle.std.specs.List.{Contains}
use Rattle.pepa_rates.specs.declared.rate.Rate.{Rate}
use Rattle.pepa_lexer.specs.declared.kinds.Token.{Token}
use Rattle.pepa_reader.specs.Trees.{RateNode, RateLineNode, ProcessNode, ProcessLineNode}
use Rattle.pepa_resolver.specs.declared.bad_rates.BadRate.{BadRate}
use Rattle.pepa_resolver.specs.Parts.{RateSite, rates_in}
use Rattle.pepa_resolver.specs.Outcomes.{Outcome, Good, NoValue, BadAt, rate_outcome}

-- the answer is the refusal that begins first, if there is one; `Bad start at`: what begins at `start` is refused at `at`
abbrev pub IsEarliest : (ℕ → ℕ → Type 0) → Option BadRate → Type 0
IsEarliest Bad None = (start at : ℕ) → ¬ Bad start at
IsEarliest Bad (Some bad) = Bad bad.start bad.at × ((start at : ℕ) → Bad start at → ¬ (start < bad.start))

-- the one of two that begins first
abbrev pub earlier_of : Option BadRate → Option BadRate → Option BadRate
earlier_of None second = second
earlier_of (Some first) None = Some first
earlier_of (Some first) (Some second) = if nat_lt second.start first.start then Some second else Some first

-- the rate of one of these activities is refused
abbrev pub BadSite : List Token → (ℕ → Outcome Rate) → List RateSite → ℕ → ℕ → Type 0
BadSite tokens named sites start at = (site : RateSite) × Contains sites site × (site.site_at ≡ start) × (rate_outcome tokens named site.rate ≡ BadAt at)

-- the rate of an activity of one of these processes is refused
abbrev pub BadProcess : List Token → (ℕ → Outcome Rate) → List ProcessNode → ℕ → ℕ → Type 0
BadProcess tokens named processes start at = (process : ProcessNode) × Contains processes process × BadSite tokens named (rates_in process) start at

-- the refusal of a rate that begins at an index, if its outcome is one
abbrev pub refusal_from : ℕ → Outcome Rate → Option BadRate
refusal_from start (Good rate) = None
refusal_from start NoValue = None
refusal_from start (BadAt at) = Some (record { start = start; at = at })

-- the refusal that begins first, of one and of those of these activities, whose rates have these outcomes
abbrev pub earliest_in : (RateNode → Outcome Rate) → Option BadRate → List RateSite → Option BadRate
earliest_in outcome bad [] = bad
earliest_in outcome bad (site ∷ sites) = earliest_in outcome (earlier_of bad (refusal_from site.site_at (outcome site.rate))) sites

-- the activities in the right sides of these lines
abbrev pub line_sites : List ProcessLineNode → List RateSite
line_sites lines = flat_map (λ line. rates_in line.body) lines

-- the rate of one of these lines, which have these outcomes, is refused
abbrev pub BadLine : List RateLineNode → List (Outcome Rate) → ℕ → ℕ → Type 0
BadLine lines outcomes start at =
    (k : ℕ) × (line : RateLineNode) × (slice_get lines k ≡ Some line) × (line.line_at ≡ start) × (slice_get outcomes k ≡ Some (BadAt at))
