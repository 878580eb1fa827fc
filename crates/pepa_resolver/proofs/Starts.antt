-- The rates of a file begin at different tokens, so the first one that is refused has one index.
use Rattle.std.proofs.Common.{◌≡◌, ℕ, zero, suc, ◌+◌, ◌<◌, ◌≤◌, ◌⊎◌, inl, inr, List, [], ◌∷◌, ◌++◌, length, map, Some, slice_get, sym, ◌∙◌, ap, subst, arith, length-append}
use Rattle.std.specs.List.{Contains}
use Rattle.std.proofs.lemmas.List.Elements.{Contains-append_cases}
use Rattle.pepa_rates.specs.declared.rate.Rate.{Rate}
use Rattle.pepa_lexer.specs.declared.kinds.Token.{Token}
use Rattle.pepa_lexer.specs.declared.kinds.Sign.TheVariants.{Closing, Semicolon, Dot, Plus, Slash, OpeningBrace, ClosingBrace}
use Rattle.token_grammar.specs.declared.terminal.Terminal.TheVariants.{Mark}
use Rattle.pepa_reader.specs.Grammar as g
use Rattle.pepa_reader.specs.Grammar.{rate_spelled, cooperation_spelled, process_spelled, choice_spelled, hidden_spelled, prefix_spelled, line_spelled, lines_spelled, words_spelled}
use Rattle.pepa_reader.specs.Trees.{RateNode, RateLineNode, ProcessLineNode, ProcessNode, rate_tree, process_tree, choice_tree, hidden_tree, prefix_tree, rate_lines_from, process_lines_from, file_tree}
use Rattle.pepa_resolver.specs.Parts.{RateSite, rates_in}
use Rattle.pepa_resolver.specs.Outcomes.{Outcome, BadAt, rate_outcome, looked_up, BadRateAt, IsFirstBadRate}
use Rattle.node_orders.proofs.Elements.{no_element, one_element, contains_cases, contains_map_from}
use Rattle.pepa_resolver.proofs.Within.{Inside}

-- each start lies within the span, and has one index
pub record IsPlaced (low high : ℕ) (At : ℕ → ℕ → Type 0) : Type 0 where
  pub inside : (start i : ℕ) → At start i → Inside low high start
  pub one : (start i j : ℕ) → At start i → At start j → i ≡ j

nowhere : (low high : ℕ) (At : ℕ → ℕ → Type 0) → ((start i : ℕ) → At start i → ⊥) → IsPlaced low high At
nowhere low high At none = record { inside = λ start i h. absurd (none start i h); one = λ start i j h k. absurd (none start i h) }

-- two spans, one behind the other
joined : (low mid high : ℕ) (P Q R : ℕ → ℕ → Type 0) → low ≤ mid → mid ≤ high → IsPlaced low mid P → IsPlaced mid high Q → ((start i : ℕ) → R start i → P start i ⊎ Q start i) → IsPlaced low high R
joined low mid high P Q R from to p q parts = record {
  inside = λ start i h. within start i (parts start i h);
  one = λ start i j h k. same start i j (parts start i h) (parts start j k);
}
  where
    within : (start i : ℕ) → P start i ⊎ Q start i → Inside low high start
    within start i (inl h) =
        let a : low ≤ start = (p.inside start i h).0 in
        let b : start < mid = (p.inside start i h).1 in
        (a, omega arith)
    within start i (inr h) =
        let a : mid ≤ start = (q.inside start i h).0 in
        let b : start < high = (q.inside start i h).1 in
        (omega arith, b)

    crossed : (start i j : ℕ) → P start i → Q start j → ⊥
    crossed start i j h k =
        let a : start < mid = (p.inside start i h).1 in
        let b : mid ≤ start = (q.inside start j k).0 in
        omega arith

    same : (start i j : ℕ) → P start i ⊎ Q start i → P start j ⊎ Q start j → i ≡ j
    same start i j (inl h) (inl k) = p.one start i j h k
    same start i j (inl h) (inr k) = absurd (crossed start i j h k)
    same start i j (inr h) (inl k) = absurd (crossed start j i k h)
    same start i j (inr h) (inr k) = q.one start i j h k

-- what begins at one token
alone : (low high at : ℕ) (P : ℕ → Type 0) → low ≤ at → at < high → ((i j : ℕ) → P i → P j → i ≡ j) → IsPlaced low high (λ start i. (at ≡ start) × P i)
alone low high at P from to one = record {
  inside = λ start i h. let e : at ≡ start = h.0 in (omega arith, omega arith);
  one = λ start i j h k. one i j h.1 k.1;
}

-- ---- the rates of activities

module _ (Bad : RateNode → ℕ → Type 0) (one_bad : (rate : RateNode) (i j : ℕ) → Bad rate i → Bad rate j → i ≡ j) where
  abbrev pub SiteAt : List RateSite → ℕ → ℕ → Type 0
  SiteAt sites start i = (site : RateSite) × Contains sites site × (site.site_at ≡ start) × Bad site.rate i

  either : (xs ys : List RateSite) (start i : ℕ) → SiteAt (xs ++ ys) start i → SiteAt xs start i ⊎ SiteAt ys start i
  either xs ys start i (site, among, begins, bad) =
      elim (Contains-append_cases xs ys site among) [ inl a ↦ inl (site, a, begins, bad) | inr b ↦ inr (site, b, begins, bad) ]

  first_or : (at : ℕ) (rate : RateNode) (sites : List RateSite) (start i : ℕ) → SiteAt (record { site_at = at; rate = rate } ∷ sites) start i → ((at ≡ start) × Bad rate i) ⊎ SiteAt sites start i
  first_or at rate sites start i (site, among, begins, bad) =
      elim (contains_cases here sites site among) [
        | inl e ↦ inl (ap (λ (s : RateSite). s.site_at) e ∙ begins, subst (λ (s : RateSite). Bad s.rate i) (sym e) bad)
        | inr there ↦ inr (site, there, begins, bad)
      ]
    where
      here : RateSite
      here = record { site_at = at; rate = rate }

  mutual
    process_placed : (low high at : ℕ) (process : g.Process) → low ≤ at → at + length (process_spelled process) ≤ high → IsPlaced low high (SiteAt (rates_in (process_tree at process)))
    process_placed low high at (g.OneChoice choice) from to = choice_placed low high at choice from to
    process_placed low high at (g.Cooperating process coop choice) from to =
        let e1 = length-append (process_spelled process) (cooperation_spelled coop ++ choice_spelled choice) in
        let e2 = length-append (cooperation_spelled coop) (choice_spelled choice) in
        let mid = at + length (process_spelled process) in
        let next = mid + length (cooperation_spelled coop) in
        let xs = rates_in (process_tree at process) in
        let ys = rates_in (choice_tree next choice) in
        joined low mid high (SiteAt xs) (SiteAt ys) (SiteAt (xs ++ ys)) (omega arith) (omega arith)
        (process_placed low mid at process from (omega arith))
        (choice_placed mid high next choice (omega arith) (omega arith))
        (either xs ys)

    choice_placed : (low high at : ℕ) (choice : g.Choice) → low ≤ at → at + length (choice_spelled choice) ≤ high → IsPlaced low high (SiteAt (rates_in (choice_tree at choice)))
    choice_placed low high at (g.OneHidden hidden) from to = hidden_placed low high at hidden from to
    choice_placed low high at (g.Chosen choice hidden) from to =
        let e = length-append (choice_spelled choice) (Mark Plus ∷ hidden_spelled hidden) in
        let mid = at + length (choice_spelled choice) in
        let xs = rates_in (choice_tree at choice) in
        let ys = rates_in (hidden_tree (mid + 1) hidden) in
        joined low mid high (SiteAt xs) (SiteAt ys) (SiteAt (xs ++ ys)) (omega arith) (omega arith)
        (choice_placed low mid at choice from (omega arith))
        (hidden_placed mid high (mid + 1) hidden (omega arith) (omega arith))
        (either xs ys)

    hidden_placed : (low high at : ℕ) (hidden : g.Hidden) → low ≤ at → at + length (hidden_spelled hidden) ≤ high → IsPlaced low high (SiteAt (rates_in (hidden_tree at hidden)))
    hidden_placed low high at (g.OnePrefix prefix) from to = prefix_placed low high at prefix from to
    hidden_placed low high at (g.Hiding hidden words) from to =
        let e = length-append (hidden_spelled hidden) (Mark Slash ∷ Mark OpeningBrace ∷ (words_spelled words ++ Mark ClosingBrace ∷ [])) in
        hidden_placed low high at hidden from (omega arith)

    prefix_placed : (low high at : ℕ) (prefix : g.Prefix) → low ≤ at → at + length (prefix_spelled prefix) ≤ high → IsPlaced low high (SiteAt (rates_in (prefix_tree at prefix)))
    prefix_placed low high at (g.Activity word rate prefix) from to =
        let e = length-append (rate_spelled rate) (Mark Closing ∷ Mark Dot ∷ prefix_spelled prefix) in
        let next = at + 3 + length (rate_spelled rate) + 2 in
        let here = rate_tree (at + 3) rate in
        let sites = rates_in (prefix_tree next prefix) in
        joined low (at + 1) high (λ start i. (at ≡ start) × Bad here i) (SiteAt sites) (SiteAt (record { site_at = at; rate = here } ∷ sites)) (omega arith) (omega arith)
        (alone low (at + 1) at (Bad here) from (omega arith) (one_bad here))
        (prefix_placed (at + 1) high next prefix (omega arith) (omega arith))
        (first_or at here sites)
    prefix_placed low high at g.Constant from to = nowhere low high (SiteAt []) (λ start i h. no_element h.0 h.1)
    prefix_placed low high at (g.Grouped process) from to =
        let e = length-append (process_spelled process) (Mark Closing ∷ []) in
        process_placed low high (at + 1) process (omega arith) (omega arith)

  -- ---- the rates of lines

  -- a rate line that is refused, by its number, or an activity in a process line
  abbrev pub LinesAt : List RateLineNode → (ℕ → ℕ → Type 0) → List ProcessLineNode → ℕ → ℕ → Type 0
  LinesAt rates Refused processes start i =
      ((k : ℕ) × (line : RateLineNode) × (slice_get rates k ≡ Some line) × (line.line_at ≡ start) × Refused k i)
      ⊎ ((line : ProcessLineNode) × Contains processes line × SiteAt (rates_in line.body) start i)

  no_line : (Refused : ℕ → ℕ → Type 0) (start i : ℕ) → LinesAt [] Refused [] start i → ⊥
  no_line Refused start i (inl (k, line, is, begins, refused)) = absurd cc
  no_line Refused start i (inr (line, among, more)) = no_element line among

  rate_line_or : (node : RateLineNode) (rates : List RateLineNode) (Refused : ℕ → ℕ → Type 0) (processes : List ProcessLineNode) (start i : ℕ) → LinesAt (node ∷ rates) Refused processes start i → ((node.line_at ≡ start) × Refused 0 i) ⊎ LinesAt rates (λ k. Refused (suc k)) processes start i
  rate_line_or node rates Refused processes start i (inl (zero, line, is, begins, refused)) =
      let e : node ≡ line = cc in
      inl (ap (λ (l : RateLineNode). l.line_at) e ∙ begins, refused)
  rate_line_or node rates Refused processes start i (inl (suc k, line, is, begins, refused)) = inr (inl (k, line, is, begins, refused))
  rate_line_or node rates Refused processes start i (inr h) = inr (inr h)

  process_line_or : (node : ProcessLineNode) (rates : List RateLineNode) (Refused : ℕ → ℕ → Type 0) (processes : List ProcessLineNode) (start i : ℕ) → LinesAt rates Refused (node ∷ processes) start i → SiteAt (rates_in node.body) start i ⊎ LinesAt rates Refused processes start i
  process_line_or node rates Refused processes start i (inl h) = inr (inl h)
  process_line_or node rates Refused processes start i (inr (line, among, at)) =
      elim (contains_cases node processes line among) [
        | inl e ↦ inl (subst (λ (l : ProcessLineNode). SiteAt (rates_in l.body) start i) (sym e) at)
        | inr there ↦ inr (inr (line, there, at))
      ]

  lines_placed : (high at : ℕ) (lines : List g.Line) (Refused : ℕ → ℕ → Type 0) → ((k i j : ℕ) → Refused k i → Refused k j → i ≡ j) → at + length (lines_spelled lines) ≤ high → IsPlaced at high (LinesAt (rate_lines_from at lines) Refused (process_lines_from at lines))
  lines_placed high at [] Refused one to = nowhere at high (LinesAt [] Refused []) (no_line Refused)
  lines_placed high at (g.RateNamed name rate ∷ lines) Refused one to =
      let e1 = length-append (line_spelled (g.RateNamed name rate)) (lines_spelled lines) in
      let e2 = length-append (rate_spelled rate) (Mark Semicolon ∷ []) in
      let next = at + length (line_spelled (g.RateNamed name rate)) in
      let node : RateLineNode = record { line_at = at; rate = rate_tree (at + 2) rate } in
      let rates = rate_lines_from next lines in
      let processes = process_lines_from next lines in
      joined at next high (λ start i. (at ≡ start) × Refused 0 i) (LinesAt rates (λ k. Refused (suc k)) processes) (LinesAt (node ∷ rates) Refused processes) (omega arith) (omega arith)
      (alone at next at (Refused 0) (omega arith) (omega arith) (one 0))
      (lines_placed high next lines (λ k. Refused (suc k)) (λ k. one (suc k)) (omega arith))
      (rate_line_or node rates Refused processes)
  lines_placed high at (g.ProcessNamed process ∷ lines) Refused one to =
      let e1 = length-append (line_spelled (g.ProcessNamed process)) (lines_spelled lines) in
      let e2 = length-append (process_spelled process) (Mark Semicolon ∷ []) in
      let next = at + length (line_spelled (g.ProcessNamed process)) in
      let node : ProcessLineNode = record { line_at = at; body = process_tree (at + 2) process } in
      let rates = rate_lines_from next lines in
      let processes = process_lines_from next lines in
      joined at next high (SiteAt (rates_in node.body)) (LinesAt rates Refused processes) (LinesAt rates Refused (node ∷ processes)) (omega arith) (omega arith)
      (process_placed at next (at + 2) process (omega arith) (omega arith))
      (lines_placed high next lines Refused one (omega arith))
      (process_line_or node rates Refused processes)
  lines_placed high at (g.ProbeWritten target whole ∷ lines) Refused one to =
      let e1 = length-append (line_spelled (g.ProbeWritten target whole)) (lines_spelled lines) in
      let next = at + length (line_spelled (g.ProbeWritten target whole)) in
      let others = LinesAt (rate_lines_from next lines) Refused (process_lines_from next lines) in
      joined at next high (LinesAt [] Refused []) others others (omega arith) (omega arith)
      (nowhere at next (LinesAt [] Refused []) (no_line Refused))
      (lines_placed high next lines Refused one (omega arith))
      (λ start i h. inr h)

-- ---- the rates of a file

same_bad : (i j : ℕ) (o : Outcome Rate) → o ≡ BadAt i → o ≡ BadAt j → i ≡ j
same_bad i j o h k = cc

same_read : (i j : ℕ) (outcomes : List (Outcome Rate)) (k : ℕ) → slice_get outcomes k ≡ Some (BadAt i) → slice_get outcomes k ≡ Some (BadAt j) → i ≡ j
same_read i j outcomes k h l = cc

module _ (tokens : List Token) (name : ℕ → List ℕ) (file : g.File) (outcomes : List (Outcome Rate)) where
  abbrev IsBad : RateNode → ℕ → Type 0
  IsBad rate i = rate_outcome tokens (looked_up name (file_tree file).rates outcomes) rate ≡ BadAt i

  one_bad : (rate : RateNode) (i j : ℕ) → IsBad rate i → IsBad rate j → i ≡ j
  one_bad rate i j = same_bad i j (rate_outcome tokens (looked_up name (file_tree file).rates outcomes) rate)

  abbrev IsRead : ℕ → ℕ → Type 0
  IsRead k i = slice_get outcomes k ≡ Some (BadAt i)

  abbrev end : ℕ
  end = length (lines_spelled file.lines)

  line_or_system : (start i : ℕ) → BadRateAt tokens name (file_tree file) outcomes start i → LinesAt IsBad one_bad (file_tree file).rates IsRead (file_tree file).processes start i ⊎ SiteAt IsBad one_bad (rates_in (file_tree file).system) start i
  line_or_system start i (inl h) = inl (inl h)
  line_or_system start i (inr (process, among, at)) =
      elim (Contains-append_cases (map (λ (l : ProcessLineNode). l.body) (file_tree file).processes) ((file_tree file).system ∷ []) process among) [
        | inl a ↦
            let m = contains_map_from (λ (l : ProcessLineNode). l.body) (file_tree file).processes process a in
            inl (inr (m.0, m.1, subst (λ (p : ProcessNode). SiteAt IsBad one_bad (rates_in p) start i) (sym m.2) at))
        | inr b ↦ inr (subst (λ (p : ProcessNode). SiteAt IsBad one_bad (rates_in p) start i) (sym (one_element (file_tree file).system process b)) at)
      ]

  bad_placed : IsPlaced 0 (end + length (process_spelled file.system)) (BadRateAt tokens name (file_tree file) outcomes)
  bad_placed =
      let high = end + length (process_spelled file.system) in
      joined 0 end high (LinesAt IsBad one_bad (file_tree file).rates IsRead (file_tree file).processes) (SiteAt IsBad one_bad (rates_in (file_tree file).system)) (BadRateAt tokens name (file_tree file) outcomes) (omega arith) (omega arith)
      (lines_placed IsBad one_bad end 0 file.lines IsRead (λ k i j. same_read i j outcomes k) (omega arith))
      (process_placed IsBad one_bad end high end file.system (omega arith) (omega arith))
      line_or_system

  pub one_bad_rate : (start i j : ℕ) → BadRateAt tokens name (file_tree file) outcomes start i → BadRateAt tokens name (file_tree file) outcomes start j → i ≡ j
  one_bad_rate = bad_placed.one

-- the first refusal has one index
pub one_first_bad : (tokens : List Token) (name : ℕ → List ℕ) (file : g.File) (outcomes : List (Outcome Rate)) (i j : ℕ) → IsFirstBadRate tokens name (file_tree file) outcomes i → IsFirstBadRate tokens name (file_tree file) outcomes j → i ≡ j
one_first_bad tokens name file outcomes i j h k =
    let start : h.start ≡ k.start = same_least h.start k.start (h.first k.start j k.bad) (k.first h.start i h.bad) in
    one_bad_rate tokens name file outcomes k.start i j (subst (λ s. BadRateAt tokens name (file_tree file) outcomes s i) start h.bad) k.bad
  where
    same_least : (m n : ℕ) → ¬ (n < m) → ¬ (m < n) → m ≡ n
    same_least m n a b = omega arith
