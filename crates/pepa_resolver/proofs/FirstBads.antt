-- The refused rate that begins first, of two lots.
use Rattle.std.proofs.Common.{◌≡◌, ℕ, ◌+◌, ◌<◌, ◌≤◌, Bool, true, false, nat_lt, if◌then◌else◌, List, [], ◌∷◌, ◌++◌, map, length, take, get_or, slice_get, Option, Some, None, ◌⊎◌, inl, inr, refl, sym, ap, ◌∙◌, subst, arith, length-append}
use Rattle.std.specs.Prelude.{Result, Ok, Err, OnOk}
use Rattle.std.specs.List.{Contains}
use Rattle.std.proofs.lemmas.Bool.{cases_lt}
use Rattle.std.proofs.lemmas.Bool.Decides.{nat_tests}
use Rattle.std.proofs.lemmas.List.{take_more, map-append, length-map, length-take-le}
use Rattle.std.proofs.lemmas.List.Elements.{Contains-append_left, Contains-append_right, Contains-append_cases}
use Rattle.std.proofs.lemmas.Option.{slice_get_within, same_Some}
use Rattle.pepa_rates.specs.declared.rate.Rate.{Rate}
use Rattle.pepa_lexer.specs.declared.kinds.Token.{Token}
use Rattle.pepa_reader.specs.declared.trees.RateLine.{RateLine}
use Rattle.pepa_reader.specs.Trees.{RateNode, RateLineNode, ProcessNode, ProcessLineNode, rate_line_of}
use Rattle.pepa_resolver.specs.declared.bad_rates.BadRate.{BadRate}
use Rattle.pepa_resolver.specs.Parts.{RateSite, rates_in}
use Rattle.pepa_resolver.specs.Outcomes.{Outcome, Good, NoValue, BadAt, rate_outcome}
use Rattle.pepa_resolver.specs.FirstBad.{IsEarliest, earlier_of, refusal_from, earliest_in, line_sites, BadSite, BadProcess, BadLine}
use Rattle.node_orders.proofs.Elements.{no_element, one_element, contains_one, contains_here, contains_there, contains_cases}
use Rattle.pepa_resolver.proofs.OutcomeLists.{slice_get-front, slice_get-last}

pub joined : (A B C : ℕ → ℕ → Type 0) (first second : Option BadRate) → ((start at : ℕ) → C start at → A start at ⊎ B start at) → ((start at : ℕ) → A start at → C start at) → ((start at : ℕ) → B start at → C start at) → IsEarliest A first → IsEarliest B second → IsEarliest C (earlier_of first second)
joined A B C None None split left right is is' = λ start at bad. elim (split start at bad) [ inl a ↦ is start at a | inr b ↦ is' start at b ]
joined A B C None (Some other) split left right is is' =
    (right other.start other.at is'.0, λ start at bad. elim (split start at bad) [ inl a ↦ absurd (is start at a) | inr b ↦ is'.1 start at b ])
joined A B C (Some one) None split left right is is' =
    (left one.start one.at is.0, λ start at bad. elim (split start at bad) [ inl a ↦ is.1 start at a | inr b ↦ absurd (is' start at b) ])
joined A B C (Some one) (Some other) split left right is is' = choose (nat_lt other.start one.start) refl
  where
    choose : (b : Bool) → nat_lt other.start one.start ≡ b → IsEarliest C (if b then Some other else Some one)
    choose true e =
        let lt : other.start < one.start = grind (arith, nat_tests) in
        (right other.start other.at is'.0, λ start at bad. elim (split start at bad) [ inl a ↦ λ h. is.1 start at a (omega arith) | inr b ↦ is'.1 start at b ])
    choose false e =
        let le : one.start ≤ other.start = grind (arith, nat_tests) in
        (left one.start one.at is.0, λ start at bad. elim (split start at bad) [ inl a ↦ is.1 start at a | inr b ↦ λ h. is'.1 start at b (omega arith) ])

-- the same lot
pub relabelled : (A B : ℕ → ℕ → Type 0) (bad : Option BadRate) → ((start at : ℕ) → A start at → B start at) → ((start at : ℕ) → B start at → A start at) → IsEarliest A bad → IsEarliest B bad
relabelled A B None to from is = λ start at b. is start at (from start at b)
relabelled A B (Some bad) to from is = (to bad.start bad.at is.0, λ start at b. is.1 start at (from start at b))

-- ---- activities

module _ (outcome : RateNode → Outcome Rate) where
  pub earliest_append : (bad : Option BadRate) (xs ys : List RateSite) → earliest_in outcome bad (xs ++ ys) ≡ earliest_in outcome (earliest_in outcome bad xs) ys
  earliest_append bad [] ys = refl
  earliest_append bad (site ∷ sites) ys = earliest_append (earlier_of bad (refusal_from site.site_at (outcome site.rate))) sites ys

  -- one part after another
  pub in_parts : (before between after : Option BadRate) (xs ys zs : List RateSite) → between ≡ earliest_in outcome before xs → after ≡ earliest_in outcome between ys → zs ≡ xs ++ ys → after ≡ earliest_in outcome before zs
  in_parts before between after xs ys zs first second whole =
      second ∙ ap (λ (bad : Option BadRate). earliest_in outcome bad ys) first ∙ sym (earliest_append before xs ys) ∙ ap (earliest_in outcome before) (sym whole)

-- what holds anyway holds on success
pub on_success : {T E : Type 0} {P : Type 0} (result : Result T E) → P → OnOk result P
on_success (Ok value) holds = holds
on_success (Err error) holds = tt

module _ (tokens : List Token) (named : ℕ → Outcome Rate) where
  abbrev AtOne : RateSite → ℕ → ℕ → Type 0
  AtOne site = BadSite tokens named (site ∷ [])

  one_site : (site : RateSite) → IsEarliest (AtOne site) (refusal_from site.site_at (rate_outcome tokens named site.rate))
  one_site site = by (rate_outcome tokens named site.rate) refl
    where
      none : (start at : ℕ) → AtOne site start at → (start ≡ site.site_at) × (rate_outcome tokens named site.rate ≡ BadAt at)
      none start at h =
          let same : site ≡ h.0 = one_element site h.0 h.1 in
          (sym h.2 ∙ ap (λ s. s.site_at) (sym same), ap (λ s. rate_outcome tokens named s.rate) same ∙ h.3)

      by : (o : Outcome Rate) → rate_outcome tokens named site.rate ≡ o → IsEarliest (AtOne site) (refusal_from site.site_at o)
      by (Good rate) e = λ start at h. not_bad rate at (sym e ∙ (none start at h).1)
        where
          not_bad : (r : Rate) (i : ℕ) → Good r ≡ BadAt i → ⊥
          not_bad r i same = cc
      by NoValue e = λ start at h. not_bad at (sym e ∙ (none start at h).1)
        where
          not_bad : (i : ℕ) → ◌≡◌ {A = Outcome Rate} NoValue (BadAt i) → ⊥
          not_bad i same = cc
      by (BadAt i) e = ((site, contains_one site, refl, e), λ start at h lt. let first = (none start at h).0 in absurd (omega arith))

  either_site : (A : ℕ → ℕ → Type 0) (site : RateSite) (sites : List RateSite) (start at : ℕ) → (A start at ⊎ AtOne site start at) ⊎ BadSite tokens named sites start at → A start at ⊎ BadSite tokens named (site ∷ sites) start at
  either_site A site sites start at (inl (inl a)) = inl a
  either_site A site sites start at (inl (inr h)) = inr (h.0, Contains-append_left (site ∷ []) sites h.0 h.1, h.2, h.3)
  either_site A site sites start at (inr h) = inr (h.0, contains_there site sites h.0 h.1, h.2, h.3)

  site_either : (A : ℕ → ℕ → Type 0) (site : RateSite) (sites : List RateSite) (start at : ℕ) → A start at ⊎ BadSite tokens named (site ∷ sites) start at → (A start at ⊎ AtOne site start at) ⊎ BadSite tokens named sites start at
  site_either A site sites start at (inl a) = inl (inl a)
  site_either A site sites start at (inr h) = elim (contains_cases site sites h.0 h.1) [
    | inl same ↦ inl (inr (h.0, subst (Contains (site ∷ [])) same (contains_one site), h.2, h.3))
    | inr there ↦ inr (h.0, there, h.2, h.3)
  ]

  -- the one that begins first, of what was there and these activities
  pub earliest_is : (A : ℕ → ℕ → Type 0) (bad : Option BadRate) (sites : List RateSite) → IsEarliest A bad → IsEarliest (λ start at. A start at ⊎ BadSite tokens named sites start at) (earliest_in (rate_outcome tokens named) bad sites)
  earliest_is A bad [] is =
      relabelled A (λ start at. A start at ⊎ BadSite tokens named [] start at) bad (λ start at a. inl a)
      (λ start at h. elim h [ inl a ↦ a | inr b ↦ absurd (no_element b.0 b.1) ]) is
  earliest_is A bad (site ∷ sites) is =
      let first = refusal_from site.site_at (rate_outcome tokens named site.rate) in
      let More = λ (start at : ℕ). A start at ⊎ AtOne site start at in
      let one : IsEarliest More (earlier_of bad first) =
      joined A (AtOne site) More bad first (λ start at h. h) (λ start at a. inl a) (λ start at b. inr b) is (one_site site) in
      relabelled (λ start at. More start at ⊎ BadSite tokens named sites start at) (λ start at. A start at ⊎ BadSite tokens named (site ∷ sites) start at)
      (earliest_in (rate_outcome tokens named) (earlier_of bad first) sites)
      (either_site A site sites) (site_either A site sites) (earliest_is More (earlier_of bad first) sites one)

  -- ---- processes

  from_lines : (lines : List ProcessLineNode) (start at : ℕ) → BadSite tokens named (line_sites lines) start at → BadProcess tokens named (map (λ line. line.body) lines) start at
  from_lines [] start at h = absurd (no_element h.0 h.1)
  from_lines (line ∷ lines) start at h = elim (Contains-append_cases (rates_in line.body) (line_sites lines) h.0 h.1) [
    | inl here ↦ (line.body, contains_here line.body (map (λ line. line.body) lines), (h.0, here, h.2, h.3))
    | inr there ↦ let more = from_lines lines start at (h.0, there, h.2, h.3) in (more.0, contains_there line.body (map (λ line. line.body) lines) more.0 more.1, more.2)
  ]

  to_lines : (lines : List ProcessLineNode) (start at : ℕ) → BadProcess tokens named (map (λ line. line.body) lines) start at → BadSite tokens named (line_sites lines) start at
  to_lines [] start at h = absurd (no_element h.0 h.1)
  to_lines (line ∷ lines) start at h = elim (contains_cases line.body (map (λ line. line.body) lines) h.0 h.1) [
    | inl same ↦
        let site = subst (λ (p : ProcessNode). BadSite tokens named (rates_in p) start at) (sym same) h.2 in
        (site.0, Contains-append_left (rates_in line.body) (line_sites lines) site.0 site.1, site.2, site.3)
    | inr there ↦
        let more = to_lines lines start at (h.0, there, h.2) in
        (more.0, Contains-append_right (rates_in line.body) (line_sites lines) more.0 more.1, more.2, more.3)
  ]

  -- the activities of lines and of a system are those of the file's processes
  pub site_cases : (lines : List ProcessLineNode) (system : ProcessNode) (start at : ℕ) → BadSite tokens named (line_sites lines) start at ⊎ BadSite tokens named (rates_in system) start at → BadProcess tokens named (map (λ line. line.body) lines ++ system ∷ []) start at
  site_cases lines system start at (inl h) =
      let from = from_lines lines start at h in
      (from.0, Contains-append_left (map (λ line. line.body) lines) (system ∷ []) from.0 from.1, from.2)
  site_cases lines system start at (inr h) = (system, Contains-append_right (map (λ line. line.body) lines) (system ∷ []) system (contains_one system), h)

  pub process_cases : (lines : List ProcessLineNode) (system : ProcessNode) (start at : ℕ) → BadProcess tokens named (map (λ line. line.body) lines ++ system ∷ []) start at → BadSite tokens named (line_sites lines) start at ⊎ BadSite tokens named (rates_in system) start at
  process_cases lines system start at h = elim (Contains-append_cases (map (λ line. line.body) lines) (system ∷ []) h.0 h.1) [
    | inl before ↦ inl (to_lines lines start at (h.0, before, h.2))
    | inr last ↦ inr (subst (λ (p : ProcessNode). BadSite tokens named (rates_in p) start at) (sym (one_element system h.0 last)) h.2)
  ]

-- ---- lines

line_joined : (nodes : List RateLineNode) (node : RateLineNode) (outcomes : List (Outcome Rate)) (i : ℕ) (first second bad : Option BadRate) → i ≡ length nodes → IsEarliest (BadLine nodes outcomes) first → IsEarliest (λ from at. (from ≡ node.line_at) × (slice_get outcomes i ≡ Some (BadAt at))) second → bad ≡ earlier_of first second → IsEarliest (BadLine (nodes ++ node ∷ []) outcomes) bad
line_joined nodes node outcomes i first second bad len is is' e =
    rw e (joined (BadLine nodes outcomes) (λ from at. (from ≡ node.line_at) × (slice_get outcomes i ≡ Some (BadAt at))) (BadLine (nodes ++ node ∷ []) outcomes) first second
    (λ start at h. elim (cases_lt h.0 (length nodes)) [
      | inl lt ↦ inl (h.0, h.1, sym (slice_get-front nodes (node ∷ []) h.0 lt) ∙ h.2, h.3, h.4)
      | inr le ↦ inr (last start at h.0 h.1 h.2 h.3 h.4 le)
    ])
    (λ start at h. (h.0, h.1, slice_get-front nodes (node ∷ []) h.0 (slice_get_within nodes h.0 h.1 h.2) ∙ h.2, h.3, h.4))
    (λ start at h. (i, node, slice_get-last nodes node i len, sym h.0, h.1))
    is is')
  where
    last : (start at k : ℕ) (here : RateLineNode) → slice_get (nodes ++ node ∷ []) k ≡ Some here → here.line_at ≡ start → slice_get outcomes k ≡ Some (BadAt at) → length nodes ≤ k → (start ≡ node.line_at) × (slice_get outcomes i ≡ Some (BadAt at))
    last start at k here at_k begins refused le =
        let within = slice_get_within (nodes ++ node ∷ []) k here at_k in
        let long = length-append nodes (node ∷ []) in
        let end : k ≡ length nodes = omega arith in
        let same : node ≡ here = same_Some node here (sym (slice_get-last nodes node k end) ∙ at_k) in
        (sym begins ∙ ap (λ l. l.line_at) (sym same), ap (slice_get outcomes) (len ∙ sym end) ∙ refused)

pub line_more : (lines : List RateLine) (i : ℕ) (line : RateLine) (outcomes : List (Outcome Rate)) (first second bad : Option BadRate) → i < length lines → line ≡ get_or lines i line → IsEarliest (BadLine (map rate_line_of (take i lines)) outcomes) first → IsEarliest (λ from at. (from ≡ line.at) × (slice_get outcomes i ≡ Some (BadAt at))) second → bad ≡ earlier_of first second → IsEarliest (BadLine (map rate_line_of (take (i + 1) lines)) outcomes) bad
line_more lines i line outcomes first second bad lt at is is' e =
    let more : map rate_line_of (take (i + 1) lines) ≡ map rate_line_of (take i lines) ++ rate_line_of line ∷ [] =
    ap (map rate_line_of) (take_more lines i line lt ∙ ap (λ l. take i lines ++ l ∷ []) (sym at)) ∙ map-append rate_line_of (take i lines) (line ∷ []) in
    let le : i ≤ length lines = omega arith in
    subst (λ (nodes : List RateLineNode). IsEarliest (BadLine nodes outcomes) bad) (sym more)
    (line_joined (map rate_line_of (take i lines)) (rate_line_of line) outcomes i first second bad (sym (length-map (take i lines) rate_line_of ∙ length-take-le i lines le)) is is' e)
