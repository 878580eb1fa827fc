-- The outcomes of rate lines, one line after another.
use Rattle.std.proofs.Common.{◌≡◌, ℕ, zero, suc, ◌+◌, ◌<◌, ◌≤◌, List, [], ◌∷◌, ◌++◌, map, length, get_or, take, drop, slice_get, Some, inl, inr, refl, sym, ap, ◌∙◌, subst, arith, length-append, take-append-drop}
use Rattle.std.specs.Cmp.Lexicographic.{nat_list_eq_equiv}
use Rattle.std.proofs.Math.Path.{fun_ext}
use Rattle.std.proofs.lemmas.List.{take_more, take-append-le, map-append}
use Rattle.std.proofs.lemmas.Bool.{cases_lt}
use Rattle.std.proofs.lemmas.Option.{slice_get_within, same_Some}
use Rattle.pepa_rates.specs.declared.rate.Rate.{Rate}
use Rattle.pepa_lexer.specs.declared.kinds.Token.{Token}
use Rattle.pepa_reader.specs.declared.trees.RateLine.{RateLine}
use Rattle.pepa_reader.specs.Trees.{RateLineNode, rate_line_of, rate_node_of}
use Rattle.pepa_resolver.specs.Parts.{rate_ats}
use Rattle.pepa_resolver.specs.Outcomes.{Outcome, looked_up, rate_outcome, AreOutcomes}
use Rattle.pepa_resolver.specs.Values.{named_in}

-- ---- a look-up by the names of the lines

pub looked_named : (name : ℕ → List ℕ) (lines : List RateLineNode) (outcomes : List (Outcome Rate)) (i : ℕ) → looked_up name lines outcomes i ≡ named_in (map name (rate_ats lines)) outcomes (name i)
looked_named name [] outcomes i = refl
looked_named name (line ∷ lines) [] i = refl
looked_named name (line ∷ lines) (outcome ∷ outcomes) i =
    rw (nat_list_eq_equiv.symm (name line.line_at) (name i), looked_named name lines outcomes i) refl

-- lines without outcomes give no value
looked_short : (name : ℕ → List ℕ) (front more : List RateLineNode) (outcomes : List (Outcome Rate)) (i : ℕ) → length outcomes ≤ length front → looked_up name (front ++ more) outcomes i ≡ looked_up name front outcomes i
looked_short name [] [] [] i short = refl
looked_short name [] (line ∷ more) [] i short = refl
looked_short name [] more (outcome ∷ outcomes) i short = absurd (omega arith)
looked_short name (line ∷ front) more [] i short = refl
looked_short name (line ∷ front) more (outcome ∷ outcomes) i short = rw (looked_short name front more outcomes i (omega arith)) refl

-- ---- one line more

module _ {X : Type 0} where
  pub slice_get-front : (xs more : List X) (k : ℕ) → k < length xs → slice_get (xs ++ more) k ≡ slice_get xs k
  slice_get-front [] more k lt = absurd (omega arith)
  slice_get-front (x ∷ xs) more zero lt = refl
  slice_get-front (x ∷ xs) more (suc k) lt = slice_get-front xs more k (omega arith)

  pub slice_get-last : (xs : List X) (x : X) (k : ℕ) → k ≡ length xs → slice_get (xs ++ x ∷ []) k ≡ Some x
  slice_get-last xs x k e = rw e (last xs)
    where
      last : (ys : List X) → slice_get (ys ++ x ∷ []) (length ys) ≡ Some x
      last [] = refl
      last (y ∷ ys) = last ys

  take-last : (xs more : List X) (k : ℕ) → k ≡ length xs → take k (xs ++ more) ≡ xs
  take-last xs more k e = rw e (front xs)
    where
      front : (ys : List X) → take (length ys) (ys ++ more) ≡ ys
      front [] = refl
      front (y ∷ ys) = ap (λ r. y ∷ r) (front ys)

-- the outcome at this place is that of the line
abbrev IsJudged : List Token → (ℕ → List ℕ) → List RateLineNode → List (Outcome Rate) → ℕ → RateLineNode → Type 0
IsJudged tokens name lines outcomes k here = slice_get outcomes k ≡ Some (rate_outcome tokens (looked_up name (take k lines) (take k outcomes)) here.rate)

pub outcomes_more : (tokens : List Token) (name : ℕ → List ℕ) (lines : List RateLineNode) (outcomes : List (Outcome Rate)) (line : RateLineNode) (outcome : Outcome Rate) → AreOutcomes tokens name lines outcomes → outcome ≡ rate_outcome tokens (looked_up name lines outcomes) line.rate → AreOutcomes tokens name (lines ++ line ∷ []) (outcomes ++ outcome ∷ [])
outcomes_more tokens name lines outcomes line outcome are is = record {
  count = length-append outcomes (outcome ∷ []) ∙ ap (λ n. n + 1) are.count ∙ sym (length-append lines (line ∷ []));
  each = λ k here at. elim (cases_lt k (length lines)) [ inl lt ↦ above k here at lt | inr le ↦ last k here at le ];
}
  where
    above : (k : ℕ) (here : RateLineNode) → slice_get (lines ++ line ∷ []) k ≡ Some here → k < length lines → IsJudged tokens name (lines ++ line ∷ []) (outcomes ++ outcome ∷ []) k here
    above k here at lt =
        let count = are.count in
        let so_far : k < length outcomes = omega arith in
        let le : k ≤ length lines = omega arith in
        let le' : k ≤ length outcomes = omega arith in
        let judged = are.each k here (sym (slice_get-front lines (line ∷ []) k lt) ∙ at) in
        rw (slice_get-front outcomes (outcome ∷ []) k so_far, take-append-le k lines (line ∷ []) le, take-append-le k outcomes (outcome ∷ []) le') judged

    last : (k : ℕ) (here : RateLineNode) → slice_get (lines ++ line ∷ []) k ≡ Some here → length lines ≤ k → IsJudged tokens name (lines ++ line ∷ []) (outcomes ++ outcome ∷ []) k here
    last k here at le =
        let count = are.count in
        let within = slice_get_within (lines ++ line ∷ []) k here at in
        let len = length-append lines (line ∷ []) in
        let end : k ≡ length lines = omega arith in
        let end' : k ≡ length outcomes = omega arith in
        let same : line ≡ here = same_Some line here (sym (slice_get-last lines line k end) ∙ at) in
        rw (slice_get-last outcomes outcome k end', take-last lines (line ∷ []) k end, take-last outcomes (outcome ∷ []) k end', ← same) (ap Some is)

-- the rate of a line, by the names of all lines
pub line_more : (tokens : List Token) (name : ℕ → List ℕ) (lines : List RateLine) (k : ℕ) (line : RateLine) (keys : List (List ℕ)) (outcomes : List (Outcome Rate)) (outcome : Outcome Rate) → k < length lines → line ≡ get_or lines k line → keys ≡ map name (rate_ats (map rate_line_of lines)) → AreOutcomes tokens name (map rate_line_of (take k lines)) outcomes → outcome ≡ rate_outcome tokens (λ i. named_in keys outcomes (name i)) (rate_node_of line.rate) → AreOutcomes tokens name (map rate_line_of (take (k + 1) lines)) (outcomes ++ outcome ∷ [])
line_more tokens name lines k line keys outcomes outcome lt is keys_are are value =
    let front = map rate_line_of (take k lines) in
    let more = map rate_line_of (drop k lines) in
    let whole : map rate_line_of lines ≡ front ++ more = ap (map rate_line_of) (sym (take-append-drop k lines)) ∙ map-append rate_line_of (take k lines) (drop k lines) in
    let named : (i : ℕ) → named_in keys outcomes (name i) ≡ looked_up name front outcomes i = λ i. ap (λ names. named_in names outcomes (name i)) keys_are ∙ sym (looked_named name (map rate_line_of lines) outcomes i) ∙ ap (λ nodes. looked_up name nodes outcomes i) whole ∙ looked_short name front more outcomes i (short are.count) in
    let all : map rate_line_of (take (k + 1) lines) ≡ front ++ rate_line_of line ∷ [] = ap (map rate_line_of) (take_more lines k line lt ∙ ap (λ l. take k lines ++ l ∷ []) (sym is)) ∙ map-append rate_line_of (take k lines) (line ∷ []) in
    subst (λ nodes. AreOutcomes tokens name nodes (outcomes ++ outcome ∷ [])) (sym all)
    (outcomes_more tokens name front outcomes (rate_line_of line) outcome are (value ∙ ap (λ n. rate_outcome tokens n (rate_node_of line.rate)) (fun_ext named)))
  where
    short : length outcomes ≡ length (map rate_line_of (take k lines)) → length outcomes ≤ length (map rate_line_of (take k lines))
    short e = omega arith
