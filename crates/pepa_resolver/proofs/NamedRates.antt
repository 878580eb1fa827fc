-- The rates that names have.
use Rattle.std.proofs.Common.{◌≡◌, ℕ, zero, suc, ◌+◌, ◌<◌, ◌≤◌, Bool, true, false, cond, not, nat_lt, List, [], ◌∷◌, map, length, get_or, slice_get, nat_eq, position, if◌then◌else◌, Some, None, refl, arith}
use Rattle.std.specs.Prelude.{Result}
use Rattle.std.specs.Cmp.Lexicographic.{pointwise}
use Rattle.std.specs.List.{position_or_len}
use Rattle.std.proofs.lemmas.Bool.Decides.{nat_tests}
use Rattle.std.proofs.lemmas.List.Quantifiers.{position-Some}
use Rattle.pepa_rates.specs.declared.rate.Rate.{Rate}
use Rattle.pepa_resolver.specs.declared.values.Unvalued.{Unvalued}
use Rattle.pepa_resolver.specs.Outcomes.{Outcome, NoValue, value_of}
use Rattle.pepa_resolver.specs.Values.{outcome_of, line_value, named_in}

-- the name is first at this place of the names
pub named_first : (keys : List (List ℕ)) (values : List (Result Rate Unvalued)) (name : List ℕ) (i : ℕ) → i < length keys → pointwise nat_eq name (get_or keys i []) ≡ true → ((k : ℕ) → k < i → pointwise nat_eq name (get_or keys k []) ≡ false) → named_in keys (map outcome_of values) name ≡ line_value (slice_get values i)
named_first [] values name i lt is none = absurd (omega arith)
named_first (key ∷ keys) [] name i lt is none = refl
named_first (key ∷ keys) (value ∷ values) name zero lt is none = rw is refl
named_first (key ∷ keys) (value ∷ values) name (suc i) lt is none =
    rw (none 0 (omega arith)) (named_first keys values name i (omega arith) is (λ k h. none (suc k) (omega arith)))

pub named_at : (keys : List (List ℕ)) (values : List (Result Rate Unvalued)) (name : List ℕ) (i : ℕ) → position (pointwise nat_eq name) keys ≡ Some i → named_in keys (map outcome_of values) name ≡ line_value (slice_get values i)
named_at keys values name i is =
    let at = position-Some (pointwise nat_eq name) keys i [] is in
    named_first keys values name i at.0 at.1 at.2

-- the name is at no place of the names
none_within : (p : List ℕ → Bool) (keys : List (List ℕ)) → position p keys ≡ None → length keys ≤ position_or_len p keys
none_within p keys none =
    let past : nat_lt (position_or_len p keys) (length keys) ≡ false = by (nat_lt (position_or_len p keys) (length keys)) (position_or_len p keys) none in
    grind (arith, nat_tests)
  where
    by : (b : Bool) (i : ℕ) → cond b (Some i) None ≡ None → b ≡ false
    by true i h = absurd (cc)
    by false i h = refl

named_past : (keys : List (List ℕ)) (outcomes : List (Outcome Rate)) (name : List ℕ) → length keys ≤ position_or_len (pointwise nat_eq name) keys → named_in keys outcomes name ≡ NoValue
named_past [] outcomes name past = refl
named_past (key ∷ keys) [] name past = refl
named_past (key ∷ keys) (outcome ∷ outcomes) name past =
    step (pointwise nat_eq name key) (length keys) (position_or_len (pointwise nat_eq name) keys) past (named_past keys outcomes name)
  where
    step : (b : Bool) (n m : ℕ) → suc n ≤ cond (not b) (1 + m) 0 → (n ≤ m → named_in keys outcomes name ≡ NoValue) → (if b then value_of outcome else named_in keys outcomes name) ≡ NoValue
    step true n m h k = absurd (omega arith)
    step false n m h k = k (omega arith)

pub named_nowhere : (keys : List (List ℕ)) (outcomes : List (Outcome Rate)) (name : List ℕ) → position (pointwise nat_eq name) keys ≡ None → named_in keys outcomes name ≡ NoValue
named_nowhere keys outcomes name none = named_past keys outcomes name (none_within (pointwise nat_eq name) keys none)
