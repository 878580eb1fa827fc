-- The indices in the tree of a file are those of its tokens.
use Rattle.std.proofs.Common.{◌≡◌, ℕ, suc, ◌+◌, ◌<◌, ◌≤◌, ◌⊎◌, inl, inr, Bool, true, false, if◌then◌else◌, nat_eq, ◌&&◌, List, [], ◌∷◌, ◌++◌, length, map, take, Some, None, slice_get, sym, ap, ◌∙◌, subst, arith, length-append}
use Rattle.std.specs.List.{Contains, AllByRecursion}
use Rattle.std.specs.Cmp.Lexicographic.{pointwise}
use Rattle.std.proofs.lemmas.Option.{slice_get_within, get_or_from_slice_get}
use Rattle.std.proofs.lemmas.List.Elements.{Contains-append_right, Contains-append_cases}
use Rattle.std.proofs.Math.ListN.{length-map}
use Rattle.pepa_rates.specs.Fraction.{Fraction}
use Rattle.pepa_rates.specs.declared.rate.Rate.{Rate}
use Rattle.pepa_rates.specs.declared.rate.Rate.TheVariants.{Active, Passive}
use Rattle.pepa_lexer.specs.declared.kinds.Token.{Token}
use Rattle.token_grammar.specs.SmallNames.{small_spelled}
use Rattle.pepa_reader.specs.declared.trees.FileTree.{FileTree}
use Rattle.token_grammar.specs.Terminals.{terminals, terminal_of, name_at}
use Rattle.pepa_lexer.specs.declared.kinds.Sign.TheVariants.{Closing, Semicolon, Dot, Plus, Slash, Greater, OpeningBrace, ClosingBrace}
use Rattle.token_grammar.specs.declared.terminal.Terminal.{Terminal}
use Rattle.token_grammar.specs.declared.terminal.Terminal.TheVariants.{Mark, Tau}
use Rattle.pepa_reader.specs.Grammar as g
use Rattle.pepa_reader.specs.Grammar.{sum_spelled, product_spelled, factor_spelled, rate_spelled, cooperation_spelled, process_spelled, choice_spelled, hidden_spelled, prefix_spelled, line_spelled, lines_spelled, item_spelled, file_spelled, words_spelled, further_words, word_spelled, sum_sign_spelled, product_sign_spelled, ending_spelled}
use Rattle.pepa_reader.specs.Trees.{RateNode, NumberAt, NameAt, TopAt, OpAt, BracketOf, ProcessNode, ConstantAt, PrefixAt, ChoiceOf, CoopAt, HideOf, RateLineNode, ProcessLineNode, FileNode, sum_tree, product_tree, factor_tree, rate_tree, word_indices, cooperation_indices, process_tree, choice_tree, hidden_tree, prefix_tree, rate_lines_from, process_lines_from, file_tree, file_node_of}
use Rattle.pepa_reader.specs.FileAnswers.{IsFileTree}
use Rattle.pepa_resolver.specs.Parts.{names_in, constants_in, rates_in, RateSite, rate_ats, process_ats, processes_of}
use Rattle.pepa_resolver.specs.declared.refusal.ResolveCause.{ResolveCause}
use Rattle.pepa_resolver.specs.declared.refusal.ResolveCause.TheVariants.{Twice, UnknownName, TauInSet, BadRate, TooManyLines}
use Rattle.pepa_resolver.specs.Outcomes.{Outcome, Good, NoValue, BadAt, is_fine, number_value, op_value, inner_name, combined_outcome, sum_outcome, active_outcome, rate_outcome, value_of, looked_up, AreOutcomes, BadRateAt}
use Rattle.pepa_resolver.specs.Faults.{IsRepeated, TooManyAt, TwiceAt, UnknownAt}
use Rattle.pepa_resolver.specs.NamesAnswers.{IsNamesRefusedFor}
use Rattle.node_orders.proofs.Elements.{no_element, one_element, contains_here, contains_cases, contains_map_from}

-- ---- each index in a tree

-- it holds of each index in a rate
abbrev pub EachInRate : (ℕ → Type 0) → RateNode → Type 0
EachInRate P (NumberAt at) = P at
EachInRate P (NameAt at) = P at
EachInRate P (TopAt None at) = P at
EachInRate P (TopAt (Some weight) at) = P weight × P at
EachInRate P (OpAt at left right) = P at × EachInRate P left × EachInRate P right
EachInRate P (BracketOf inner) = EachInRate P inner

-- it holds of each index in a process
abbrev pub EachInProcess : (ℕ → Type 0) → ProcessNode → Type 0
EachInProcess P (ConstantAt at) = P at
EachInProcess P (PrefixAt at rate next) = P at × EachInRate P rate × EachInProcess P next
EachInProcess P (ChoiceOf left right) = EachInProcess P left × EachInProcess P right
EachInProcess P (CoopAt at left right set) = P at × EachInProcess P left × EachInProcess P right × AllByRecursion P set
EachInProcess P (HideOf inner set) = EachInProcess P inner × AllByRecursion P set

-- it holds of each index in a file
pub record EachInFile (P : ℕ → Type 0) (file : FileNode) : Type 0 where
  pub rates : AllByRecursion (λ line. P line.line_at × EachInRate P line.rate) file.rates
  pub processes : AllByRecursion (λ line. P line.line_at × EachInProcess P line.body) file.processes
  pub system : EachInProcess P file.system

abbrev pub Inside : ℕ → ℕ → ℕ → Type 0
Inside low high i = (low ≤ i) × (i < high)

module _ (low high : ℕ) where
  mutual
    sum_inside : (at : ℕ) (sum : g.Sum) → low ≤ at → at + length (sum_spelled sum) ≤ high → EachInRate (Inside low high) (sum_tree at sum)
    sum_inside at (g.OneProduct product) from to = product_inside at product from to
    sum_inside at (g.Summed sum sign product) from to =
        let e = length-append (sum_spelled sum) (sum_sign_spelled sign ∷ product_spelled product) in
        ((omega arith, omega arith), sum_inside at sum from (omega arith), product_inside (at + length (sum_spelled sum) + 1) product (omega arith) (omega arith))

    product_inside : (at : ℕ) (product : g.Product) → low ≤ at → at + length (product_spelled product) ≤ high → EachInRate (Inside low high) (product_tree at product)
    product_inside at (g.OneFactor factor) from to = factor_inside at factor from to
    product_inside at (g.Produced product sign factor) from to =
        let e = length-append (product_spelled product) (product_sign_spelled sign ∷ factor_spelled factor) in
        ((omega arith, omega arith), product_inside at product from (omega arith), factor_inside (at + length (product_spelled product) + 1) factor (omega arith) (omega arith))

    factor_inside : (at : ℕ) (factor : g.Factor) → low ≤ at → at + length (factor_spelled factor) ≤ high → EachInRate (Inside low high) (factor_tree at factor)
    factor_inside at g.Amount from to = (omega arith, omega arith)
    factor_inside at (g.Naming name) from to = (omega arith, omega arith)
    factor_inside at (g.Bracketed sum) from to =
        let e = length-append (sum_spelled sum) (Mark Closing ∷ []) in
        sum_inside (at + 1) sum (omega arith) (omega arith)

  rate_inside : (at : ℕ) (rate : g.Rate) → low ≤ at → at + length (rate_spelled rate) ≤ high → EachInRate (Inside low high) (rate_tree at rate)
  rate_inside at g.Passive from to = (omega arith, omega arith)
  rate_inside at g.Weighted from to = ((omega arith, omega arith), (omega arith, omega arith))
  rate_inside at (g.Computed sum) from to = sum_inside at sum from to

  further_inside : (at : ℕ) (word : g.Word) (words : List g.Word) → low ≤ at → at + suc (length (further_words words)) ≤ high → AllByRecursion (Inside low high) (word_indices at (word ∷ words))
  further_inside at word [] from to = ((omega arith, omega arith), tt)
  further_inside at word (next ∷ words) from to = ((omega arith, omega arith), further_inside (at + 2) next words (omega arith) (omega arith))

  words_inside : (at : ℕ) (words : List g.Word) → low ≤ at → at + length (words_spelled words) ≤ high → AllByRecursion (Inside low high) (word_indices at words)
  words_inside at [] from to = tt
  words_inside at (word ∷ words) from to = further_inside at word words from to

  some_cooperation : (coop : g.Cooperation) → 0 < length (cooperation_spelled coop)
  some_cooperation g.Parallel = omega arith
  some_cooperation (g.Sharing words) = omega arith

  cooperation_inside : (at : ℕ) (coop : g.Cooperation) → low ≤ at → at + length (cooperation_spelled coop) ≤ high → AllByRecursion (Inside low high) (cooperation_indices at coop)
  cooperation_inside at g.Parallel from to = tt
  cooperation_inside at (g.Sharing words) from to =
      let e = length-append (words_spelled words) (Mark Greater ∷ []) in
      words_inside (at + 1) words (omega arith) (omega arith)

  mutual
    process_inside : (at : ℕ) (process : g.Process) → low ≤ at → at + length (process_spelled process) ≤ high → EachInProcess (Inside low high) (process_tree at process)
    process_inside at (g.OneChoice choice) from to = choice_inside at choice from to
    process_inside at (g.Cooperating process coop choice) from to =
        let e1 = length-append (process_spelled process) (cooperation_spelled coop ++ choice_spelled choice) in
        let e2 = length-append (cooperation_spelled coop) (choice_spelled choice) in
        let some = some_cooperation coop in (
          (omega arith, omega arith),
          process_inside at process from (omega arith),
          choice_inside (at + length (process_spelled process) + length (cooperation_spelled coop)) choice (omega arith) (omega arith),
          cooperation_inside (at + length (process_spelled process)) coop (omega arith) (omega arith),
        )

    choice_inside : (at : ℕ) (choice : g.Choice) → low ≤ at → at + length (choice_spelled choice) ≤ high → EachInProcess (Inside low high) (choice_tree at choice)
    choice_inside at (g.OneHidden hidden) from to = hidden_inside at hidden from to
    choice_inside at (g.Chosen choice hidden) from to =
        let e = length-append (choice_spelled choice) (Mark Plus ∷ hidden_spelled hidden) in
        (choice_inside at choice from (omega arith), hidden_inside (at + length (choice_spelled choice) + 1) hidden (omega arith) (omega arith))

    hidden_inside : (at : ℕ) (hidden : g.Hidden) → low ≤ at → at + length (hidden_spelled hidden) ≤ high → EachInProcess (Inside low high) (hidden_tree at hidden)
    hidden_inside at (g.OnePrefix prefix) from to = prefix_inside at prefix from to
    hidden_inside at (g.Hiding hidden words) from to =
        let e1 = length-append (hidden_spelled hidden) (Mark Slash ∷ Mark OpeningBrace ∷ (words_spelled words ++ Mark ClosingBrace ∷ [])) in
        let e2 = length-append (words_spelled words) (Mark ClosingBrace ∷ []) in
        (hidden_inside at hidden from (omega arith), words_inside (at + length (hidden_spelled hidden) + 2) words (omega arith) (omega arith))

    prefix_inside : (at : ℕ) (prefix : g.Prefix) → low ≤ at → at + length (prefix_spelled prefix) ≤ high → EachInProcess (Inside low high) (prefix_tree at prefix)
    prefix_inside at (g.Activity word rate prefix) from to =
        let e = length-append (rate_spelled rate) (Mark Closing ∷ Mark Dot ∷ prefix_spelled prefix) in (
          (omega arith, omega arith),
          rate_inside (at + 3) rate (omega arith) (omega arith),
          prefix_inside (at + 3 + length (rate_spelled rate) + 2) prefix (omega arith) (omega arith),
        )
    prefix_inside at g.Constant from to = (omega arith, omega arith)
    prefix_inside at (g.Grouped process) from to =
        let e = length-append (process_spelled process) (Mark Closing ∷ []) in
        process_inside (at + 1) process (omega arith) (omega arith)

  rate_lines_inside : (at : ℕ) (lines : List g.Line) → low ≤ at → at + length (lines_spelled lines) ≤ high → AllByRecursion (λ line. Inside low high line.line_at × EachInRate (Inside low high) line.rate) (rate_lines_from at lines)
  rate_lines_inside at [] from to = tt
  rate_lines_inside at (g.RateNamed name rate ∷ lines) from to =
      let e1 = length-append (line_spelled (g.RateNamed name rate)) (lines_spelled lines) in
      let e2 = length-append (rate_spelled rate) (Mark Semicolon ∷ []) in
      (((omega arith, omega arith), rate_inside (at + 2) rate (omega arith) (omega arith)), rate_lines_inside (at + length (line_spelled (g.RateNamed name rate))) lines (omega arith) (omega arith))
  rate_lines_inside at (g.ProcessNamed process ∷ lines) from to =
      let e1 = length-append (line_spelled (g.ProcessNamed process)) (lines_spelled lines) in
      rate_lines_inside (at + length (line_spelled (g.ProcessNamed process))) lines (omega arith) (omega arith)
  rate_lines_inside at (g.ProbeWritten target whole ∷ lines) from to =
      let e1 = length-append (line_spelled (g.ProbeWritten target whole)) (lines_spelled lines) in
      rate_lines_inside (at + length (line_spelled (g.ProbeWritten target whole))) lines (omega arith) (omega arith)

  process_lines_inside : (at : ℕ) (lines : List g.Line) → low ≤ at → at + length (lines_spelled lines) ≤ high → AllByRecursion (λ line. Inside low high line.line_at × EachInProcess (Inside low high) line.body) (process_lines_from at lines)
  process_lines_inside at [] from to = tt
  process_lines_inside at (g.RateNamed name rate ∷ lines) from to =
      let e1 = length-append (line_spelled (g.RateNamed name rate)) (lines_spelled lines) in
      process_lines_inside (at + length (line_spelled (g.RateNamed name rate))) lines (omega arith) (omega arith)
  process_lines_inside at (g.ProcessNamed process ∷ lines) from to =
      let e1 = length-append (line_spelled (g.ProcessNamed process)) (lines_spelled lines) in
      let e2 = length-append (process_spelled process) (Mark Semicolon ∷ []) in
      (((omega arith, omega arith), process_inside (at + 2) process (omega arith) (omega arith)), process_lines_inside (at + length (line_spelled (g.ProcessNamed process))) lines (omega arith) (omega arith))
  process_lines_inside at (g.ProbeWritten target whole ∷ lines) from to =
      let e1 = length-append (line_spelled (g.ProbeWritten target whole)) (lines_spelled lines) in
      process_lines_inside (at + length (line_spelled (g.ProbeWritten target whole))) lines (omega arith) (omega arith)

pub file_inside : (file : g.File) → EachInFile (Inside 0 (length (file_spelled file))) (file_tree file)
file_inside file =
    let e1 = length-append (lines_spelled file.lines) (item_spelled (g.System file.system file.ending)) in
    let e2 = length-append (process_spelled file.system) (ending_spelled file.ending) in
    record {
      rates = rate_lines_inside 0 (length (file_spelled file)) 0 file.lines (omega arith) (omega arith);
      processes = process_lines_inside 0 (length (file_spelled file)) 0 file.lines (omega arith) (omega arith);
      system = process_inside 0 (length (file_spelled file)) (length (lines_spelled file.lines)) file.system (omega arith) (omega arith);
    }

-- ---- those that are told

module _ (P : ℕ → Type 0) where
  all_at : {X : Type 0} (Q : X → Type 0) (xs : List X) (x : X) → AllByRecursion Q xs → Contains xs x → Q x
  all_at Q [] x all h = absurd (no_element x h)
  all_at Q (y ∷ xs) x all h = elim (contains_cases y xs x h) [ inl e ↦ subst Q e all.0 | inr there ↦ all_at Q xs x all.1 there ]

  name_each : (rate : RateNode) (i : ℕ) → EachInRate P rate → Contains (names_in rate) i → P i
  name_each (NumberAt at) i each h = absurd (no_element i h)
  name_each (NameAt at) i each h = subst P (one_element at i h) each
  name_each (TopAt weight at) i each h = absurd (no_element i h)
  name_each (OpAt at left right) i each h =
      elim (Contains-append_cases (names_in left) (names_in right) i h) [ inl a ↦ name_each left i each.1 a | inr b ↦ name_each right i each.2 b ]
  name_each (BracketOf inner) i each h = name_each inner i each h

  constant_each : (process : ProcessNode) (i : ℕ) → EachInProcess P process → Contains (constants_in process) i → P i
  constant_each (ConstantAt at) i each h = subst P (one_element at i h) each
  constant_each (PrefixAt at rate next) i each h = constant_each next i each.2 h
  constant_each (ChoiceOf left right) i each h =
      elim (Contains-append_cases (constants_in left) (constants_in right) i h) [ inl a ↦ constant_each left i each.0 a | inr b ↦ constant_each right i each.1 b ]
  constant_each (CoopAt at left right set) i each h =
      elim (Contains-append_cases (constants_in left) (constants_in right) i h) [ inl a ↦ constant_each left i each.1 a | inr b ↦ constant_each right i each.2 b ]
  constant_each (HideOf inner set) i each h = constant_each inner i each.0 h

  site_each : (process : ProcessNode) (site : RateSite) → EachInProcess P process → Contains (rates_in process) site → P site.site_at × EachInRate P site.rate
  site_each (ConstantAt at) site each h = absurd (no_element site h)
  site_each (PrefixAt at rate next) site each h =
      elim (contains_cases here (rates_in next) site h) [
        | inl e ↦ subst (λ (s : RateSite). P s.site_at × EachInRate P s.rate) e (each.0, each.1)
        | inr there ↦ site_each next site each.2 there
      ]
    where
      here : RateSite
      here = record { site_at = at; rate = rate }
  site_each (ChoiceOf left right) site each h =
      elim (Contains-append_cases (rates_in left) (rates_in right) site h) [ inl a ↦ site_each left site each.0 a | inr b ↦ site_each right site each.1 b ]
  site_each (CoopAt at left right set) site each h =
      elim (Contains-append_cases (rates_in left) (rates_in right) site h) [ inl a ↦ site_each left site each.1 a | inr b ↦ site_each right site each.2 b ]
  site_each (HideOf inner set) site each h = site_each inner site each.0 h

-- ---- the index of a rate that is refused

fine_bad : (b : Bool) (q : Fraction) (at i : ℕ) → (if b then Good q else BadAt at) ≡ BadAt i → at ≡ i
fine_bad true q at i h = absurd cc
fine_bad false q at i h = cc

inner_bad : (o : Outcome Rate) (at i : ℕ) → inner_name at o ≡ BadAt i → at ≡ i
inner_bad (Good (Active q)) at i h = absurd cc
inner_bad (Good (Passive q)) at i h = cc
inner_bad NoValue at i h = absurd cc
inner_bad (BadAt j) at i h = absurd cc

combined_bad : (tokens : List Token) (at : ℕ) (x y : Outcome Fraction) (i : ℕ) → combined_outcome tokens at x y ≡ BadAt i → (at ≡ i) ⊎ ((x ≡ BadAt i) ⊎ (y ≡ BadAt i))
combined_bad tokens at (BadAt j) y i h = inr (inl h)
combined_bad tokens at (Good p) (BadAt j) i h = inr (inr h)
combined_bad tokens at NoValue (BadAt j) i h = inr (inr h)
combined_bad tokens at (Good p) (Good q) i h = inl (fine_bad (is_fine (op_value (slice_get tokens at) p q)) (op_value (slice_get tokens at) p q) at i h)
combined_bad tokens at (Good p) NoValue i h = absurd cc
combined_bad tokens at NoValue (Good q) i h = absurd cc
combined_bad tokens at NoValue NoValue i h = absurd cc

active_bad : (o : Outcome Fraction) (i : ℕ) → active_outcome o ≡ BadAt i → o ≡ BadAt i
active_bad (Good q) i h = absurd cc
active_bad NoValue i h = absurd cc
active_bad (BadAt j) i h = let e : j ≡ i = cc in ap BadAt e

weight_bad : (b : Bool) (q : Fraction) (at i : ℕ) → (if b then Good (Passive q) else BadAt at) ≡ BadAt i → at ≡ i
weight_bad true q at i h = absurd cc
weight_bad false q at i h = cc

no_bad_value : (o : Outcome Rate) (i : ℕ) → value_of o ≡ BadAt i → ⊥
no_bad_value (Good r) i h = cc
no_bad_value NoValue i h = cc
no_bad_value (BadAt j) i h = cc

either_bad : (b : Bool) (outcome rest : Outcome Rate) (i : ℕ) → (rest ≡ BadAt i → ⊥) → (if b then value_of outcome else rest) ≡ BadAt i → ⊥
either_bad true outcome rest i below h = no_bad_value outcome i h
either_bad false outcome rest i below h = below h

looked_up_bad : (name : ℕ → List ℕ) (lines : List RateLineNode) (outcomes : List (Outcome Rate)) (at i : ℕ) → looked_up name lines outcomes at ≡ BadAt i → ⊥
looked_up_bad name [] outcomes at i h = cc
looked_up_bad name (line ∷ lines) [] at i h = cc
looked_up_bad name (line ∷ lines) (outcome ∷ outcomes) at i h =
    either_bad (pointwise nat_eq (name line.line_at) (name at)) outcome (looked_up name lines outcomes at) i (looked_up_bad name lines outcomes at i) h

module _ (P : ℕ → Type 0) (tokens : List Token) (named : ℕ → Outcome Rate) where
  sum_bad : (rate : RateNode) (i : ℕ) → sum_outcome tokens named rate ≡ BadAt i → EachInRate P rate → P i
  sum_bad (NumberAt at) i h each = subst P (fine_bad (is_fine (number_value (slice_get tokens at))) (number_value (slice_get tokens at)) at i h) each
  sum_bad (NameAt at) i h each = subst P (inner_bad (named at) at i h) each
  sum_bad (TopAt None at) i h each = let e : at ≡ i = cc in subst P e each
  sum_bad (TopAt (Some weight) at) i h each = let e : at ≡ i = cc in subst P e each.1
  sum_bad (OpAt at left right) i h each =
      elim (combined_bad tokens at (sum_outcome tokens named left) (sum_outcome tokens named right) i h) [
        | inl e ↦ subst P e each.0
        | inr sides ↦ elim sides [ inl l ↦ sum_bad left i l each.1 | inr r ↦ sum_bad right i r each.2 ]
      ]
  sum_bad (BracketOf inner) i h each = sum_bad inner i h each

  rate_bad : (rate : RateNode) (i : ℕ) → ((at j : ℕ) → named at ≡ BadAt j → ⊥) → rate_outcome tokens named rate ≡ BadAt i → EachInRate P rate → P i
  rate_bad (NameAt at) i never h each = absurd (never at i h)
  rate_bad (TopAt None at) i never h each = absurd cc
  rate_bad (TopAt (Some weight) at) i never h each =
      let q = number_value (slice_get tokens weight) in
      subst P (weight_bad (is_fine q && nat_eq q.den 1) q weight i h) each.0
  rate_bad (NumberAt at) i never h each = sum_bad (NumberAt at) i (active_bad (sum_outcome tokens named (NumberAt at)) i h) each
  rate_bad (OpAt at left right) i never h each = sum_bad (OpAt at left right) i (active_bad (sum_outcome tokens named (OpAt at left right)) i h) each
  rate_bad (BracketOf inner) i never h each = sum_bad (BracketOf inner) i (active_bad (sum_outcome tokens named (BracketOf inner)) i h) each

-- ---- each refusal

contains_at : {X : Type 0} (xs : List X) (k : ℕ) (x : X) → slice_get xs k ≡ Some x → Contains xs x
contains_at xs k x h = (k, slice_get_within xs k x h, get_or_from_slice_get xs k x x h)

module _ (P : ℕ → Type 0) (file : FileNode) (each : EachInFile P file) where
  rate_line_each : (line : RateLineNode) → Contains file.rates line → P line.line_at × EachInRate P line.rate
  rate_line_each line h = all_at P (λ (l : RateLineNode). P l.line_at × EachInRate P l.rate) file.rates line each.rates h

  rate_at_each : (i : ℕ) → Contains (rate_ats file.rates) i → P i
  rate_at_each i h = let m = contains_map_from (λ (l : RateLineNode). l.line_at) file.rates i h in subst P m.2 (rate_line_each m.0 m.1).0

  process_line_each : (line : ProcessLineNode) → Contains file.processes line → P line.line_at × EachInProcess P line.body
  process_line_each line h = all_at P (λ (l : ProcessLineNode). P l.line_at × EachInProcess P l.body) file.processes line each.processes h

  process_at_each : (i : ℕ) → Contains (process_ats file.processes) i → P i
  process_at_each i h = let m = contains_map_from (λ (l : ProcessLineNode). l.line_at) file.processes i h in subst P m.2 (process_line_each m.0 m.1).0

  process_each : (process : ProcessNode) → Contains (processes_of file) process → EachInProcess P process
  process_each process h =
      elim (Contains-append_cases (map (λ (l : ProcessLineNode). l.body) file.processes) (file.system ∷ []) process h) [
        | inl a ↦ let m = contains_map_from (λ (l : ProcessLineNode). l.body) file.processes process a in subst (EachInProcess P) m.2 (process_line_each m.0 m.1).1
        | inr b ↦ subst (EachInProcess P) (one_element file.system process b) each.system
      ]

  pub limit_each : (i : ℕ) → TooManyAt file i → P i
  limit_each i (inl h) = rate_at_each i (contains_at (rate_ats file.rates) 1024 i h)
  limit_each i (inr h) = process_at_each i (contains_at (process_ats file.processes) 1024 i h)

  repeated_in : (name : ℕ → List ℕ) (ats : List ℕ) (i : ℕ) → IsRepeated name ats i → Contains ats i
  repeated_in name ats i h = subst (λ (xs : List ℕ). Contains xs i) (sym h.whole) (Contains-append_right h.before (i ∷ h.behind) i (contains_here i h.behind))

  pub twice_each : (name : ℕ → List ℕ) (i : ℕ) → TwiceAt name file i → P i
  twice_each name i (inl h) = rate_at_each i (repeated_in name (rate_ats file.rates) i h)
  twice_each name i (inr h) = process_at_each i (repeated_in name (process_ats file.processes) i h)

  pub unknown_each : (name : ℕ → List ℕ) (i : ℕ) → UnknownAt name file i → P i
  unknown_each name i (inl h) =
      let line = rate_line_each h.line (subst (λ (xs : List RateLineNode). Contains xs h.line) (sym h.whole) (Contains-append_right h.above (h.line ∷ h.below) h.line (contains_here h.line h.below))) in
      name_each P h.line.rate i line.1 h.among
  unknown_each name i (inr (process, there, inl h)) = constant_each P process i (process_each process there) h.0
  unknown_each name i (inr (process, there, inr h)) = name_each P h.0.0.rate i (site_each P process h.0.0 (process_each process there) h.0.1).1 h.0.2

  pub bad_each : (tokens : List Token) (name : ℕ → List ℕ) (outcomes : List (Outcome Rate)) (start i : ℕ) → AreOutcomes tokens name file.rates outcomes → BadRateAt tokens name file outcomes start i → P i
  bad_each tokens name outcomes start i are (inl (k, line, is, begins, bad)) =
      let named = looked_up name (take k file.rates) (take k outcomes) in
      let same = are.each k line is in
      rate_bad P tokens named line.rate i (λ at j e. looked_up_bad name (take k file.rates) (take k outcomes) at j e)
      (some_outcome (rate_outcome tokens named line.rate) (BadAt i) (sym same ∙ bad)) (rate_line_each line (contains_at file.rates k line is)).1
    where
      some_outcome : (x y : Outcome Rate) → Some x ≡ Some y → x ≡ y
      some_outcome x y h = cc
  bad_each tokens name outcomes start i are (inr (process, there, (site, among, begins, bad))) =
      rate_bad P tokens (looked_up name file.rates outcomes) site.rate i (λ at j e. looked_up_bad name file.rates outcomes at j e) bad (site_each P process site (process_each process there) among).1

-- an index that a refusal tells is that of a token
pub refused_within : (input : List ℕ) (tokens : List Token) (tree : FileTree) (cause : ResolveCause) (i : ℕ) → IsFileTree (terminals input tokens) tree → IsNamesRefusedFor input tokens (file_node_of tree) cause i → i < length tokens
refused_within input tokens tree cause i is h = by cause h
  where
    count : length (file_spelled is.file) ≡ length tokens
    count = ap length (sym is.spelled) ∙ length-map tokens (terminal_of input)

    each : EachInFile (Inside 0 (length tokens)) (file_node_of tree)
    each = subst (EachInFile (Inside 0 (length tokens))) (sym is.tree_is) (subst (λ n. EachInFile (Inside 0 n) (file_tree is.file)) count (file_inside is.file))

    at_token : (t : Terminal) → slice_get (terminals input tokens) i ≡ Some t → i < length tokens
    at_token t e = let lt = slice_get_within (terminals input tokens) i t e in subst (λ n. i < n) (length-map tokens (terminal_of input)) lt

    by : (cause : ResolveCause) → IsNamesRefusedFor input tokens (file_node_of tree) cause i → i < length tokens
    by TooManyLines r = (limit_each (Inside 0 (length tokens)) (file_node_of tree) each i r.stands).1
    by Twice r = (twice_each (Inside 0 (length tokens)) (file_node_of tree) each (name_at input tokens) i r.1.stands).1
    by UnknownName r = (unknown_each (Inside 0 (length tokens)) (file_node_of tree) each (name_at input tokens) i r.1.stands).1
    by TauInSet r = at_token Tau r.1.stands.1
    by BadRate r = (bad_each (Inside 0 (length tokens)) (file_node_of tree) each tokens (name_at input tokens) r.1.0 r.1.2.start i r.1.1 r.1.2.bad).1
