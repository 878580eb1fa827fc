-- Where no rate is refused and each name is known, each rate line has a value.
use Rattle.std.proofs.Common.{◌≡◌, ℕ, zero, suc, ◌+◌, ◌<◌, ◌≤◌, Bool, true, false, List, [], ◌∷◌, ◌++◌, map, length, get_or, take, slice_get, nat_eq, if◌then◌else◌, Some, None, ◌⊎◌, inl, inr, refl, sym, ap, ◌∙◌, arith}
use Rattle.std.specs.List.{Contains}
use Rattle.std.specs.Cmp.Lexicographic.{pointwise, bytes_decides}
use Rattle.std.proofs.lemmas.List.{length-take-le}
use Rattle.std.proofs.lemmas.List.Elements.{Contains-append_left, Contains-append_right}
use Rattle.std.proofs.lemmas.Map.Made.{Contains-tail}
use Rattle.std.proofs.lemmas.Option.{slice_get_within, same_Some}
use Rattle.pepa_rates.specs.Fraction.{Fraction}
use Rattle.pepa_rates.specs.declared.rate.Rate.{Rate}
use Rattle.pepa_rates.specs.declared.rate.Rate.TheVariants.{Active, Passive}
use Rattle.pepa_lexer.specs.declared.kinds.Token.{Token}
use Rattle.pepa_reader.specs.Trees.{RateNode, NumberAt, NameAt, TopAt, OpAt, BracketOf, RateLineNode}
use Rattle.pepa_resolver.specs.Parts.{names_in, rate_ats}
use Rattle.pepa_resolver.specs.Faults.{IsKnown, IsEarlyName}
use Rattle.pepa_resolver.specs.Outcomes.{Outcome, Good, NoValue, BadAt, is_fine, inner_name, combined_outcome, sum_outcome, active_outcome, rate_outcome, value_of, looked_up, AreOutcomes, number_value, op_value}
use Rattle.pepa_resolver.specs.CheckedRates.{AreGood}
use Rattle.pepa_resolver.specs.FirstBad.{BadLine}

-- ---- a rate whose names have values is judged

chosen_judged : {X : Type 0} (b : Bool) (x : X) (at : ℕ) → (if b then Good x else BadAt at) ≡ NoValue → ⊥
chosen_judged true x at e = cc
chosen_judged false x at e = cc

named_judged : (at : ℕ) (outcome : Outcome Rate) (rate : Rate) → outcome ≡ Good rate → inner_name at outcome ≡ NoValue → ⊥
named_judged at outcome (Active q) good e = let k = ap (inner_name at) good in cc
named_judged at outcome (Passive q) good e = let k = ap (inner_name at) good in cc

combined_judged : (tokens : List Token) (at : ℕ) (x y : Outcome Fraction) → (x ≡ NoValue → ⊥) → (y ≡ NoValue → ⊥) → combined_outcome tokens at x y ≡ NoValue → ⊥
combined_judged tokens at (BadAt i) y left right e = cc
combined_judged tokens at NoValue y left right e = left refl
combined_judged tokens at (Good p) (BadAt i) left right e = cc
combined_judged tokens at (Good p) NoValue left right e = right refl
combined_judged tokens at (Good p) (Good q) left right e = let value = op_value (slice_get tokens at) p q in chosen_judged (is_fine value) value at e

active_judged : (x : Outcome Fraction) → (x ≡ NoValue → ⊥) → active_outcome x ≡ NoValue → ⊥
active_judged (Good q) h e = cc
active_judged NoValue h e = h refl
active_judged (BadAt i) h e = cc

module _ (tokens : List Token) (named : ℕ → Outcome Rate) where
  -- the names have values
  abbrev HaveValues : List ℕ → Type 0
  HaveValues names = (i : ℕ) → Contains names i → (rate : Rate) × (named i ≡ Good rate)

  sum_judged : (rate : RateNode) → HaveValues (names_in rate) → sum_outcome tokens named rate ≡ NoValue → ⊥
  sum_judged (NumberAt at) have e = let value = number_value (slice_get tokens at) in chosen_judged (is_fine value) value at e
  sum_judged (NameAt at) have e = let good = have at (0, omega arith, refl) in named_judged at (named at) good.0 good.1 e
  sum_judged (TopAt weight at) have e = cc
  sum_judged (OpAt at left right) have e =
      combined_judged tokens at (sum_outcome tokens named left) (sum_outcome tokens named right)
      (sum_judged left (λ i h. have i (Contains-append_left (names_in left) (names_in right) i h)))
      (sum_judged right (λ i h. have i (Contains-append_right (names_in left) (names_in right) i h))) e
  sum_judged (BracketOf inner) have e = sum_judged inner have e

  rate_judged : (rate : RateNode) → HaveValues (names_in rate) → rate_outcome tokens named rate ≡ NoValue → ⊥
  rate_judged (NameAt at) have e = let good = have at (0, omega arith, refl) in let k = good.1 in cc
  rate_judged (TopAt None at) have e = cc
  rate_judged (TopAt (Some weight) at) have e = chosen_judged _ _ weight e
  rate_judged (NumberAt at) have e = active_judged _ (sum_judged (NumberAt at) have) e
  rate_judged (OpAt at left right) have e = active_judged _ (sum_judged (OpAt at left right) have) e
  rate_judged (BracketOf inner) have e = active_judged _ (sum_judged (BracketOf inner) have) e

-- ---- a look-up in lines that have values

nothing_known : (name : ℕ → List ℕ) (i : ℕ) → IsKnown name [] i → ⊥
nothing_known name i h = let lt = h.1.1 in omega arith

known_below : (name : ℕ → List ℕ) (at : ℕ) (ats : List ℕ) (i : ℕ) → pointwise nat_eq (name at) (name i) ≡ false → IsKnown name (at ∷ ats) i → IsKnown name ats i
known_below name at ats i apart h =
    (h.0, Contains-tail at ats h.0 (λ same. absurd (clash (ap name same ∙ h.2))) h.1, h.2)
  where
    clash : name at ≡ name i → ⊥
    clash e = let k = (bytes_decides (name at) (name i)).1 e in cc

pub looked_good : (name : ℕ → List ℕ) (lines : List RateLineNode) (outcomes : List (Outcome Rate)) (i : ℕ) → length outcomes ≡ length lines → AreGood outcomes → ((rate : Rate) × (looked_up name lines outcomes i ≡ Good rate)) ⊎ (¬ IsKnown name (rate_ats lines) i)
looked_good name [] outcomes i count good = inr (nothing_known name i)
looked_good name (line ∷ lines) [] i count good = absurd (omega arith)
looked_good name (line ∷ lines) (outcome ∷ outcomes) i count good =
    step (pointwise nat_eq (name line.line_at) (name i)) refl (good 0 outcome refl) (looked_good name lines outcomes i (omega arith) (λ k o at. good (suc k) o at))
  where
    step : (b : Bool) → pointwise nat_eq (name line.line_at) (name i) ≡ b → (rate : Rate) × (outcome ≡ Good rate) → ((rate : Rate) × (looked_up name lines outcomes i ≡ Good rate)) ⊎ (¬ IsKnown name (rate_ats lines) i)
        → ((rate : Rate) × ((if b then value_of outcome else looked_up name lines outcomes i) ≡ Good rate)) ⊎ (¬ IsKnown name (rate_ats (line ∷ lines)) i)
    step true e value rest = inl (value.0, ap value_of value.1)
    step false e value (inl found) = inl found
    step false e value (inr unknown) = inr (λ h. unknown (known_below name line.line_at (rate_ats lines) i e h))

-- ---- lists by their places

module _ {X : Type 0} where
  slice_get-some : (xs : List X) (k : ℕ) → k < length xs → (x : X) × (slice_get xs k ≡ Some x)
  slice_get-some [] k lt = absurd (omega arith)
  slice_get-some (x ∷ xs) zero lt = (x, refl)
  slice_get-some (x ∷ xs) (suc k) lt = slice_get-some xs k (omega arith)

  slice_get-taken : (xs : List X) (n k : ℕ) (x : X) → slice_get (take n xs) k ≡ Some x → (k < n) × (slice_get xs k ≡ Some x)
  slice_get-taken [] zero k x at = absurd (cc)
  slice_get-taken [] (suc n) k x at = absurd (cc)
  slice_get-taken (y ∷ ys) zero k x at = absurd (cc)
  slice_get-taken (y ∷ ys) (suc n) zero x at = (omega arith, at)
  slice_get-taken (y ∷ ys) (suc n) (suc k) x at = let rest = slice_get-taken ys n k x at in let lt = rest.0 in (omega arith, rest.1)

  split_there : (xs : List X) (k : ℕ) (x : X) → slice_get xs k ≡ Some x → (below : List X) × (xs ≡ take k xs ++ x ∷ below)
  split_there [] k x at = absurd (cc)
  split_there (y ∷ ys) zero x at = (ys, ap (λ z. z ∷ ys) (same_Some y x at))
  split_there (y ∷ ys) (suc k) x at = let rest = split_there ys k x at in (rest.0, ap (λ zs. y ∷ zs) rest.1)

-- ---- every line has a value

is_good : (outcome : Outcome Rate) → (outcome ≡ NoValue → ⊥) → ((at : ℕ) → outcome ≡ BadAt at → ⊥) → (rate : Rate) × (outcome ≡ Good rate)
is_good (Good rate) some fine = (rate, refl)
is_good NoValue some fine = absurd (some refl)
is_good (BadAt at) some fine = absurd (fine at refl)

module _ (tokens : List Token) (name : ℕ → List ℕ) (lines : List RateLineNode) (outcomes : List (Outcome Rate)) (are : AreOutcomes tokens name lines outcomes) (fine : (start at : ℕ) → ¬ BadLine lines outcomes start at) (known : (i : ℕ) → ¬ IsEarlyName name lines i) where
  line_good : (k : ℕ) (line : RateLineNode) (outcome : Outcome Rate) → AreGood (take k outcomes) → slice_get lines k ≡ Some line → slice_get outcomes k ≡ Some outcome → (rate : Rate) × (outcome ≡ Good rate)
  line_good k line outcome before at_line at =
      let judged = same_Some outcome _ (sym at ∙ are.each k line at_line) in
      is_good outcome
      (λ e. rate_judged tokens (looked_up name (take k lines) (take k outcomes)) line.rate have (sym judged ∙ e))
      (λ i e. fine line.line_at i (k, line, at_line, refl, at ∙ ap Some e))
    where
      lengths : length (take k outcomes) ≡ length (take k lines)
      lengths =
          let within = slice_get_within lines k line at_line in
          let count = are.count in
          let le : k ≤ length lines = omega arith in
          let le' : k ≤ length outcomes = omega arith in
          length-take-le k outcomes le' ∙ sym (length-take-le k lines le)

      have : (i : ℕ) → Contains (names_in line.rate) i → (rate : Rate) × (looked_up name (take k lines) (take k outcomes) i ≡ Good rate)
      have i among =
          elim (looked_good name (take k lines) (take k outcomes) i lengths before) [
            | inl found ↦ found
            | inr unknown ↦ absurd (known i (let parts = split_there lines k line at_line in record { above = take k lines; line = line; below = parts.0; whole = parts.1; among = among; unknown = unknown }))
          ]

  good_below : (n k : ℕ) (outcome : Outcome Rate) → k < n → slice_get outcomes k ≡ Some outcome → (rate : Rate) × (outcome ≡ Good rate)
  good_below zero k outcome lt at = absurd (omega arith)
  good_below (suc n) k outcome lt at =
      let within = slice_get_within outcomes k outcome at in
      let count = are.count in
      let line = slice_get-some lines k (omega arith) in
      line_good k line.0 outcome (λ j o there. let front = slice_get-taken outcomes k j o there in let first = front.0 in good_below n j o (omega arith) front.1) line.1 at

  pub lines_good : AreGood outcomes
  lines_good k outcome at = good_below (k + 1) k outcome (omega arith) at
