-- The file that is made has the numbers of the definitions, and they are in range.
use Rattle.std.proofs.Common.{◌≡◌, ℕ, ◌+◌, ◌<◌, List, [], ◌∷◌, ◌++◌, map, length, Option, Some, None, inl, inr, refl, sym, ap, ◌∙◌, subst, arith}
use Rattle.std.specs.List.{Contains}
use Rattle.std.proofs.Math.Path.{fun_ext}
use Rattle.std.proofs.lemmas.List.{length-map}
use Rattle.std.proofs.lemmas.List.Elements.{Contains-append_left, Contains-append_right, Contains-append_cases}
use Rattle.indexmap.specs.IndexMap.{keys}
use Rattle.pepa_rates.specs.declared.rate.Rate.{Rate}
use Rattle.pepa_lexer.specs.declared.kinds.Token.{Token}
use Rattle.pepa_reader.specs.Trees.{RateNode, ProcessNode, ConstantAt, PrefixAt, ChoiceOf, CoopAt, HideOf, ProcessLineNode, FileNode}
use Rattle.pepa_resolver.specs.declared.naming.NamedFile.{NamedFile}
use Rattle.pepa_resolver.specs.declared.bad_rates.BadRate.{BadRate}
use Rattle.token_grammar.specs.Terminals.{name_at}
use Rattle.pepa_resolver.specs.Parts.{rate_ats, process_ats, constants_in, rates_in, processes_of}
use Rattle.pepa_resolver.specs.Faults.{HasNone, UnknownAt}
use Rattle.pepa_resolver.specs.Outcomes.{Outcome, Good, rate_outcome, AreOutcomes, IsBadRateOf}
use Rattle.pepa_resolver.specs.FirstBad.{IsEarliest, earliest_in, line_sites, BadLine}
use Rattle.pepa_resolver.specs.ResolvedFiles.{IsValuedFile}
use Rattle.pepa_resolver.specs.Values.{named_in}
use Rattle.pepa_resolver.specs.Named.{Naming, Named, named, constants_named, ascending_set}
use Rattle.pepa_resolver.specs.NamedTypes.{named_of}
use Rattle.pepa_resolver.specs.Numbers.{place_in, constants_of, actions_of, rate_of_outcome, naming_of, named_bodies, named_system, actions_named, IsInRange, IsNamedFile}
use Rattle.node_orders.specs.Graphs.{AreBelow}
use Rattle.pepa_resolver.proofs.Ascending.{set_no_more}
use Rattle.node_orders.proofs.Elements.{no_element, contains_here, contains_cases, contains_map_from, contains_map_to}
use Rattle.pepa_resolver.proofs.OutcomeLists.{looked_named}
use Rattle.pepa_resolver.proofs.RateChecks.{Judges, judged, refused_rates, fine_rates}
use Rattle.pepa_resolver.proofs.NumberNames.{place_within}

-- ---- numbers in range

pub one_below : (count number : ℕ) → number < count → AreBelow count (number ∷ [])
one_below count number lt n h = elim (contains_cases number [] n h) [ inl e ↦ omega arith | inr k ↦ absurd (no_element n k) ]

both_below : (count : ℕ) (xs ys : List ℕ) → AreBelow count xs → AreBelow count ys → AreBelow count (xs ++ ys)
both_below count xs ys first second n h = elim (Contains-append_cases xs ys n h) [ inl a ↦ first n a | inr b ↦ second n b ]

module _ (naming : Naming) (count : ℕ) where
  pub constants_within : (process : ProcessNode) → ((i : ℕ) → Contains (constants_in process) i → naming.constant i < count) → AreBelow count (constants_named (named naming process))
  constants_within (ConstantAt at) known = one_below count (naming.constant at) (known at (contains_here at []))
  constants_within (PrefixAt at rate next) known = constants_within next known
  constants_within (ChoiceOf left right) known =
      both_below count (constants_named (named naming left)) (constants_named (named naming right))
      (constants_within left (λ i h. known i (Contains-append_left (constants_in left) (constants_in right) i h)))
      (constants_within right (λ i h. known i (Contains-append_right (constants_in left) (constants_in right) i h)))
  constants_within (CoopAt at left right set) known =
      both_below count (constants_named (named naming left)) (constants_named (named naming right))
      (constants_within left (λ i h. known i (Contains-append_left (constants_in left) (constants_in right) i h)))
      (constants_within right (λ i h. known i (Contains-append_right (constants_in left) (constants_in right) i h)))
  constants_within (HideOf inner set) known = constants_within inner known

  words_within : ((i : ℕ) → naming.action i < count) → (words : List ℕ) → AreBelow count (map naming.action words)
  words_within all [] n h = absurd (no_element n h)
  words_within all (word ∷ words) n h =
      elim (contains_cases (naming.action word) (map naming.action words) n h) [ inl e ↦ let lt = all word in omega arith | inr k ↦ words_within all words n k ]

  set_within : ((i : ℕ) → naming.action i < count) → (set : List ℕ) → AreBelow count (ascending_set (map naming.action set))
  set_within all set n h = words_within all set n (set_no_more (map naming.action set) n h)

  pub actions_within : ((i : ℕ) → naming.action i < count) → (process : ProcessNode) → AreBelow count (actions_named (named naming process))
  actions_within all (ConstantAt at) = λ n h. absurd (no_element n h)
  actions_within all (PrefixAt at rate next) = λ n h.
      elim (contains_cases (naming.action (at + 1)) (actions_named (named naming next)) n h) [ inl e ↦ let lt = all (at + 1) in omega arith | inr k ↦ actions_within all next n k ]
  actions_within all (ChoiceOf left right) = both_below count (actions_named (named naming left)) (actions_named (named naming right)) (actions_within all left) (actions_within all right)
  actions_within all (CoopAt at left right set) =
      let numbers = ascending_set (map naming.action set) in
      both_below count (actions_named (named naming left)) (numbers ++ actions_named (named naming right)) (actions_within all left)
      (both_below count numbers (actions_named (named naming right)) (set_within all set) (actions_within all right))
  actions_within all (HideOf inner set) = both_below count (actions_named (named naming inner)) (ascending_set (map naming.action set)) (actions_within all inner) (set_within all set)

module _ (name : ℕ → List ℕ) (tokens : List Token) (file : FileNode) (values : List Rate) where
  -- a constant has a line, so there is a line
  constant_within : HasNone (UnknownAt name file) → (process : ProcessNode) → Contains (processes_of file) process → (i : ℕ) → Contains (constants_in process) i → place_in (constants_of name file) (name i) < length file.processes
  constant_within known process among i there =
      let count = length-map (process_ats file.processes) name in
      let lines = length-map file.processes (λ (line : ProcessLineNode). line.line_at) in
      let within = place_within (constants_of name file) (name i) (some file.processes refl) in
      omega arith
    where
      some : (lines : List ProcessLineNode) → file.processes ≡ lines → 0 < length (map name (process_ats file.processes))
      some [] e = absurd (known i (inr (process, among, inl (there, λ h. no_element h.0 (subst (λ (ls : List ProcessLineNode). Contains (process_ats ls) h.0) e h.1)))))
      some (line ∷ lines) e = rw e (omega arith)

  pub in_range : HasNone (UnknownAt name file) → (process : ProcessNode) → Contains (processes_of file) process → IsInRange (length file.processes) (length (actions_of name file)) (named (naming_of name tokens file values) process)
  in_range known process among = record {
    constants_below = constants_within (naming_of name tokens file values) (length file.processes) process (constant_within known process among);
    actions_below = actions_within (naming_of name tokens file values) (length (actions_of name file)) (λ i. place_within (actions_of name file) (name i) (omega arith)) process;
  }

  -- ---- the naming of the program

  abbrev pub made : List (List ℕ) → List (List ℕ) → List (List ℕ) → List (Outcome Rate) → Naming
  made constants actions rates outcomes = record {
    constant = λ i. place_in constants (name i);
    action = λ i. place_in actions (name i);
    rate_of = λ rate. rate_of_outcome (rate_outcome tokens (λ i. named_in rates outcomes (name i)) rate);
  }

  pub same_naming : (constants actions rates : List (List ℕ)) (outcomes : List (Outcome Rate)) → constants ≡ constants_of name file → actions ≡ actions_of name file → rates ≡ map name (rate_ats file.rates) → outcomes ≡ map Good values → made constants actions rates outcomes ≡ naming_of name tokens file values
  same_naming constants actions rates outcomes constants_are actions_are rates_are outcomes_are =
      ap (λ ks. made ks actions rates outcomes) constants_are
      ∙ ap (λ ks. made (constants_of name file) ks rates outcomes) actions_are
      ∙ ap (λ ks. made (constants_of name file) (actions_of name file) ks outcomes) rates_are
      ∙ ap (λ os. made (constants_of name file) (actions_of name file) (map name (rate_ats file.rates)) os) outcomes_are
      ∙ ap with_look (fun_ext (λ i. sym (looked_named name file.rates (map Good values) i)))
    where
      with_look : (ℕ → Outcome Rate) → Naming
      with_look look = record {
        constant = λ i. place_in (constants_of name file) (name i);
        action = λ i. place_in (actions_of name file) (name i);
        rate_of = λ rate. rate_of_outcome (rate_outcome tokens look rate);
      }

-- ---- the whole file

module _ (input : List ℕ) (tokens : List Token) (file : FileNode) (values : List Rate) (numbered : NamedFile) where
  abbrev name : ℕ → List ℕ
  name = name_at input tokens

  in_range_as : (a b : ℕ) (body process : Named) → a ≡ length file.processes → b ≡ length (actions_of name file) → process ≡ body → IsInRange (length file.processes) (length (actions_of name file)) process → IsInRange a b body
  in_range_as a b body process lines actions same h =
      subst (λ (x : ℕ). IsInRange x b body) (sym lines) (subst (λ (y : ℕ). IsInRange (length file.processes) y body) (sym actions) (subst (IsInRange (length file.processes) (length (actions_of name file))) same h))

  pub is_named : (constants rates : List (List ℕ)) (outcomes : List (Outcome Rate)) → HasNone (UnknownAt name file) → constants ≡ constants_of name file → keys numbered.actions ≡ actions_of name file → rates ≡ map name (rate_ats file.rates) → outcomes ≡ map Good values
      → map named_of numbered.bodies ≡ named_bodies (made name tokens file values constants (keys numbered.actions) rates outcomes) file → named_of numbered.system ≡ named_system (made name tokens file values constants (keys numbered.actions) rates outcomes) file → IsNamedFile input tokens file values numbered
  is_named constants rates outcomes known constants_are actions_are rates_are outcomes_are bodies system =
      let naming = naming_of name tokens file values in
      let same = same_naming name tokens file values constants (keys numbered.actions) rates outcomes constants_are actions_are rates_are outcomes_are in
      let all : map named_of numbered.bodies ≡ named_bodies naming file = bodies ∙ ap (λ n. named_bodies n file) same in
      let last : named_of numbered.system ≡ named_system naming file = system ∙ ap (λ n. named_system n file) same in
      let lines : length numbered.bodies ≡ length file.processes = sym (length-map numbered.bodies named_of) ∙ ap length all ∙ length-map file.processes (λ (line : ProcessLineNode). named naming line.body) in
      let count : length (keys numbered.actions) ≡ length (actions_of name file) = ap length actions_are in
      record {
        actions_are = actions_are;
        bodies_are = all;
        system_is = last;
        bodies_in_range = λ body h.
            let found = contains_map_from (λ (line : ProcessLineNode). named naming line.body) file.processes body (subst (λ (bs : List Named). Contains bs body) all h) in
            let among = Contains-append_left (map (λ (line : ProcessLineNode). line.body) file.processes) (file.system ∷ []) found.0.body (contains_map_to (λ (line : ProcessLineNode). line.body) file.processes found.0 found.1) in
            in_range_as (length numbered.bodies) (length (keys numbered.actions)) body (named naming found.0.body) lines count found.2 (in_range name tokens file values known found.0.body among);
        system_in_range =
            let among = Contains-append_right (map (λ (line : ProcessLineNode). line.body) file.processes) (file.system ∷ []) file.system (contains_here file.system []) in
            in_range_as (length numbered.bodies) (length (keys numbered.actions)) (named_of numbered.system) (named_system naming file) lines count (sym last) (in_range name tokens file values known file.system among);
      }

-- ---- the rates of the whole file

module _ (input : List ℕ) (tokens : List Token) (file : FileNode) (rates : List (List ℕ)) (outcomes : List (Outcome Rate)) (rates_are : rates ≡ map (name_at input tokens) (rate_ats file.rates)) (are : AreOutcomes tokens (name_at input tokens) file.rates outcomes) where
  abbrev outcome : RateNode → Outcome Rate
  outcome rate = rate_outcome tokens (λ i. named_in rates outcomes (name_at input tokens i)) rate

  -- the refusal that is kept at the end, where the lines' first one is kept first
  abbrev pub kept : Option BadRate → Option BadRate
  kept bad = earliest_in outcome (earliest_in outcome bad (line_sites file.processes)) (rates_in file.system)

  -- what the program keeps, one after another, by the lists that it read
  pub kept_is : (read : List (Outcome Rate)) (first between last : Option BadRate) (lines : List ProcessLineNode) → read ≡ outcomes → lines ≡ file.processes
      → between ≡ earliest_in (λ rate. rate_outcome tokens (λ i. named_in rates read (name_at input tokens i)) rate) first (line_sites lines)
      → last ≡ earliest_in (λ rate. rate_outcome tokens (λ i. named_in rates read (name_at input tokens i)) rate) between (rates_in file.system) → last ≡ kept first
  kept_is read first between last lines same all of_lines of_system =
      let by : List (Outcome Rate) → RateNode → Outcome Rate = λ os rate. rate_outcome tokens (λ i. named_in rates os (name_at input tokens i)) rate in
      of_system
      ∙ ap (λ (bad : Option BadRate). earliest_in (by read) bad (rates_in file.system)) of_lines
      ∙ ap (λ (os : List (Outcome Rate)). earliest_in (by os) (earliest_in (by os) first (line_sites lines)) (rates_in file.system)) same
      ∙ ap (λ (ls : List ProcessLineNode). earliest_in (by outcomes) (earliest_in (by outcomes) first (line_sites ls)) (rates_in file.system)) all

  pub bad_rate : (first : Option BadRate) (bad : BadRate) → IsEarliest (BadLine file.rates outcomes) first → kept first ≡ Some bad → IsBadRateOf tokens (name_at input tokens) file bad.at
  bad_rate first bad is e =
      refused_rates tokens (name_at input tokens) file rates outcomes rates_are are bad
      (subst (Judges tokens (name_at input tokens) file rates outcomes rates_are are) e (judged tokens (name_at input tokens) file rates outcomes rates_are are first is))

  pub valued_file : (numbered : NamedFile) (constants : List (List ℕ)) (first : Option BadRate) → IsEarliest (BadLine file.rates outcomes) first → kept first ≡ None → HasNone (UnknownAt (name_at input tokens) file)
      → constants ≡ constants_of (name_at input tokens) file → keys numbered.actions ≡ actions_of (name_at input tokens) file
      → map named_of numbered.bodies ≡ named_bodies (made (name_at input tokens) tokens file [] constants (keys numbered.actions) rates outcomes) file → named_of numbered.system ≡ named_system (made (name_at input tokens) tokens file [] constants (keys numbered.actions) rates outcomes) file → IsValuedFile input tokens file numbered
  valued_file numbered constants first is e known constants_are actions_are bodies system =
      let values = fine_rates tokens (name_at input tokens) file rates outcomes rates_are are
      (subst (Judges tokens (name_at input tokens) file rates outcomes rates_are are) e (judged tokens (name_at input tokens) file rates outcomes rates_are are first is)) known in
      record {
        values = values.0;
        rates = values.2;
        is_named = is_named input tokens file values.0 numbered constants rates outcomes known constants_are actions_are rates_are values.1 bodies system;
      }
