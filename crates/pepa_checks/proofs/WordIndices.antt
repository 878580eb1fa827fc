-- At the indices of words in the tree of a file stand words, and at the name of a process line stands a constant's.
use Rattle.std.proofs.Common.{◌≡◌, ℕ, zero, suc, ◌+◌, ◌⊎◌, inl, inr, List, [], ◌∷◌, ◌++◌, length, map, flat_map, drop, Some, slice_get, refl, sym, ap, ◌∙◌, subst, arith, append_assoc}
use Rattle.std.specs.List.{Contains, AllByRecursion}
use Rattle.std.proofs.lemmas.List.{drop_at, drop-drop}
use Rattle.std.proofs.lemmas.List.Elements.{Contains-append_left, Contains-append_right, Contains-append_cases}
use Rattle.pepa_lexer.specs.declared.kinds.Sign.TheVariants.{Equals, Semicolon, Opening, Closing, Comma, Dot, Plus, Slash, Less, Greater, OpeningBrace, ClosingBrace}
use Rattle.token_grammar.specs.declared.terminal.Terminal.{Terminal}
use Rattle.token_grammar.specs.declared.terminal.Terminal.TheVariants.{Mark, Capital}
use Rattle.token_grammar.specs.SmallNames.{small_spelled}
use Rattle.pepa_reader.specs.Grammar as g
use Rattle.pepa_reader.specs.Grammar.{rate_spelled, cooperation_spelled, process_spelled, choice_spelled, hidden_spelled, prefix_spelled, line_spelled, lines_spelled, item_spelled, file_spelled, words_spelled, further_words, word_spelled, ending_spelled}
use Rattle.pepa_reader.specs.Trees.{ProcessNode, ConstantAt, PrefixAt, ChoiceOf, CoopAt, HideOf, ProcessLineNode, word_indices, cooperation_indices, process_tree, choice_tree, hidden_tree, prefix_tree, process_lines_from, file_tree}
use Rattle.pepa_resolver.specs.Parts.{process_ats, processes_of}
use Rattle.pepa_resolver.specs.Numbers.{words_in}
use Rattle.node_orders.proofs.Elements.{no_element, contains_cases}

-- it holds of the index of each word of a process
abbrev EachWord : (ℕ → Type 0) → ProcessNode → Type 0
EachWord P (ConstantAt at) = Unit {0}
EachWord P (PrefixAt at rate next) = P (at + 1) × EachWord P next
EachWord P (ChoiceOf left right) = EachWord P left × EachWord P right
EachWord P (CoopAt at left right set) = EachWord P left × AllByRecursion P set × EachWord P right
EachWord P (HideOf inner set) = EachWord P inner × AllByRecursion P set

in_list : (P : ℕ → Type 0) (xs : List ℕ) (i : ℕ) → AllByRecursion P xs → Contains xs i → P i
in_list P [] i h c = absurd (no_element i c)
in_list P (x ∷ xs) i h c = elim (contains_cases x xs i c) [ inl e ↦ subst P e h.0 | inr k ↦ in_list P xs i h.1 k ]

word_holds : (P : ℕ → Type 0) (node : ProcessNode) (i : ℕ) → EachWord P node → Contains (words_in node) i → P i
word_holds P (ConstantAt at) i h c = absurd (no_element i c)
word_holds P (PrefixAt at rate next) i h c = elim (contains_cases (at + 1) (words_in next) i c) [ inl e ↦ subst P e h.0 | inr k ↦ word_holds P next i h.1 k ]
word_holds P (ChoiceOf left right) i h c =
    elim (Contains-append_cases (words_in left) (words_in right) i c) [ inl k ↦ word_holds P left i h.0 k | inr k ↦ word_holds P right i h.1 k ]
word_holds P (CoopAt at left right set) i h c =
    elim (Contains-append_cases (words_in left) (set ++ words_in right) i c) [
      | inl k ↦ word_holds P left i h.0 k
      | inr k ↦ elim (Contains-append_cases set (words_in right) i k) [ inl m ↦ in_list P set i h.1 m | inr m ↦ word_holds P right i h.2 m ]
    ]
word_holds P (HideOf inner set) i h c =
    elim (Contains-append_cases (words_in inner) set i c) [ inl k ↦ word_holds P inner i h.0 k | inr k ↦ in_list P set i h.1 k ]

-- ---- what stands at an index

first_there : {X : Type 0} (xs : List X) (at : ℕ) (x : X) (more : List X) → drop at xs ≡ x ∷ more → slice_get xs at ≡ Some x
first_there [] zero x more e = absurd cc
first_there [] (suc at) x more e = absurd cc
first_there (y ∷ xs) zero x more e = let same : y ≡ x = cc in ap Some same
first_there (y ∷ xs) (suc at) x more e = first_there xs at x more e

behind_it : {X : Type 0} (xs : List X) (at : ℕ) (part more : List X) → drop at xs ≡ part ++ more → drop (at + length part) xs ≡ more
behind_it xs at part more e = sym (drop-drop (length part) at xs) ∙ ap (drop (length part)) e ∙ drop_at part more (length part) refl

-- the same index, written otherwise
from_there : {X : Type 0} (xs more : List X) (at to : ℕ) → at ≡ to → drop at xs ≡ more → drop to xs ≡ more
from_there xs more at to same e = subst (λ (n : ℕ). drop n xs ≡ more) same e

module _ (ts : List Terminal) where
  -- a word stands at the index
  abbrev pub IsWordAt : ℕ → Type 0
  IsWordAt i = (word : g.Word) × (slice_get ts i ≡ Some (word_spelled word))

  -- the terminals stand from the index on, and these behind them
  abbrev StandFrom : ℕ → List Terminal → List Terminal → Type 0
  StandFrom at part behind = drop at ts ≡ part ++ behind

  further_at : (at : ℕ) (word : g.Word) (words : List g.Word) (behind : List Terminal) → StandFrom at (word_spelled word ∷ further_words words) behind → AllByRecursion IsWordAt (word_indices at (word ∷ words))
  further_at at word [] behind e = ((word, first_there ts at (word_spelled word) behind e), tt)
  further_at at word (next ∷ words) behind e = (
    (word, first_there ts at (word_spelled word) (further_words (next ∷ words) ++ behind) e),
    further_at (at + 2) next words behind (behind_it ts at (word_spelled word ∷ Mark Comma ∷ []) ((word_spelled next ∷ further_words words) ++ behind) e),
  )

  words_at : (at : ℕ) (words : List g.Word) (behind : List Terminal) → StandFrom at (words_spelled words) behind → AllByRecursion IsWordAt (word_indices at words)
  words_at at [] behind e = tt
  words_at at (word ∷ words) behind e = further_at at word words behind e

  cooperation_at : (at : ℕ) (coop : g.Cooperation) (behind : List Terminal) → StandFrom at (cooperation_spelled coop) behind → AllByRecursion IsWordAt (cooperation_indices at coop)
  cooperation_at at g.Parallel behind e = tt
  cooperation_at at (g.Sharing words) behind e =
      words_at (at + 1) words ((Mark Greater ∷ []) ++ behind)
      (behind_it ts at (Mark Less ∷ []) ((words_spelled words ++ Mark Greater ∷ []) ++ behind) e ∙ append_assoc (words_spelled words) (Mark Greater ∷ []) behind)

  mutual
    process_at : (at : ℕ) (process : g.Process) (behind : List Terminal) → StandFrom at (process_spelled process) behind → EachWord IsWordAt (process_tree at process)
    process_at at (g.OneChoice choice) behind e = choice_at at choice behind e
    process_at at (g.Cooperating process coop choice) behind e =
        let whole : StandFrom at (process_spelled process) (cooperation_spelled coop ++ (choice_spelled choice ++ behind)) =
        e ∙ append_assoc (process_spelled process) (cooperation_spelled coop ++ choice_spelled choice) behind
        ∙ ap (λ (l : List Terminal). process_spelled process ++ l) (append_assoc (cooperation_spelled coop) (choice_spelled choice) behind) in
        let sign = behind_it ts at (process_spelled process) (cooperation_spelled coop ++ (choice_spelled choice ++ behind)) whole in
        let from : ℕ = at + length (process_spelled process) in (
          process_at at process (cooperation_spelled coop ++ (choice_spelled choice ++ behind)) whole,
          cooperation_at from coop (choice_spelled choice ++ behind) sign,
          choice_at (from + length (cooperation_spelled coop)) choice behind (behind_it ts from (cooperation_spelled coop) (choice_spelled choice ++ behind) sign),
        )

    choice_at : (at : ℕ) (choice : g.Choice) (behind : List Terminal) → StandFrom at (choice_spelled choice) behind → EachWord IsWordAt (choice_tree at choice)
    choice_at at (g.OneHidden hidden) behind e = hidden_at at hidden behind e
    choice_at at (g.Chosen choice hidden) behind e =
        let whole : StandFrom at (choice_spelled choice) ((Mark Plus ∷ hidden_spelled hidden) ++ behind) = e ∙ append_assoc (choice_spelled choice) (Mark Plus ∷ hidden_spelled hidden) behind in
        let sign = behind_it ts at (choice_spelled choice) ((Mark Plus ∷ hidden_spelled hidden) ++ behind) whole in
        let from : ℕ = at + length (choice_spelled choice) in (
          choice_at at choice ((Mark Plus ∷ hidden_spelled hidden) ++ behind) whole,
          hidden_at (from + 1) hidden behind (behind_it ts from (Mark Plus ∷ []) (hidden_spelled hidden ++ behind) sign),
        )

    hidden_at : (at : ℕ) (hidden : g.Hidden) (behind : List Terminal) → StandFrom at (hidden_spelled hidden) behind → EachWord IsWordAt (hidden_tree at hidden)
    hidden_at at (g.OnePrefix prefix) behind e = prefix_at at prefix behind e
    hidden_at at (g.Hiding hidden words) behind e =
        let set : List Terminal = words_spelled words ++ Mark ClosingBrace ∷ [] in
        let whole : StandFrom at (hidden_spelled hidden) ((Mark Slash ∷ Mark OpeningBrace ∷ set) ++ behind) = e ∙ append_assoc (hidden_spelled hidden) (Mark Slash ∷ Mark OpeningBrace ∷ set) behind in
        let sign = behind_it ts at (hidden_spelled hidden) ((Mark Slash ∷ Mark OpeningBrace ∷ set) ++ behind) whole in
        let from : ℕ = at + length (hidden_spelled hidden) in (
          hidden_at at hidden ((Mark Slash ∷ Mark OpeningBrace ∷ set) ++ behind) whole,
          words_at (from + 2) words ((Mark ClosingBrace ∷ []) ++ behind)
              (behind_it ts from (Mark Slash ∷ Mark OpeningBrace ∷ []) (set ++ behind) sign ∙ append_assoc (words_spelled words) (Mark ClosingBrace ∷ []) behind),
        )

    prefix_at : (at : ℕ) (prefix : g.Prefix) (behind : List Terminal) → StandFrom at (prefix_spelled prefix) behind → EachWord IsWordAt (prefix_tree at prefix)
    prefix_at at (g.Activity word rate prefix) behind e =
        let rest : List Terminal = Mark Closing ∷ Mark Dot ∷ prefix_spelled prefix in
        let start : List Terminal = Mark Opening ∷ word_spelled word ∷ Mark Comma ∷ [] in
        let named : drop (at + 1) ts ≡ word_spelled word ∷ Mark Comma ∷ ((rate_spelled rate ++ rest) ++ behind) =
        behind_it ts at (Mark Opening ∷ []) (word_spelled word ∷ Mark Comma ∷ ((rate_spelled rate ++ rest) ++ behind)) e in
        let rated : drop (at + 3) ts ≡ rate_spelled rate ++ (rest ++ behind) =
        behind_it ts at start ((rate_spelled rate ++ rest) ++ behind) e ∙ append_assoc (rate_spelled rate) rest behind in
        let closed = behind_it ts (at + 3) (rate_spelled rate) (rest ++ behind) rated in
        let next = behind_it ts (at + 3 + length (rate_spelled rate)) (Mark Closing ∷ Mark Dot ∷ []) (prefix_spelled prefix ++ behind) closed in (
          (word, first_there ts (at + 1) (word_spelled word) (Mark Comma ∷ ((rate_spelled rate ++ rest) ++ behind)) named),
          prefix_at (at + 3 + length (rate_spelled rate) + 2) prefix behind next,
        )
    prefix_at at g.Constant behind e = tt
    prefix_at at (g.Grouped process) behind e =
        process_at (at + 1) process ((Mark Closing ∷ []) ++ behind)
        (behind_it ts at (Mark Opening ∷ []) ((process_spelled process ++ Mark Closing ∷ []) ++ behind) e ∙ append_assoc (process_spelled process) (Mark Closing ∷ []) behind)

  -- ---- lines

  -- a constant's name stands at the line's name, and a word at each of its words
  abbrev IsLineAt : ProcessLineNode → Type 0
  IsLineAt line = (slice_get ts line.line_at ≡ Some Capital) × EachWord IsWordAt line.body

  lines_at : (at : ℕ) (lines : List g.Line) (behind : List Terminal) → StandFrom at (lines_spelled lines) behind → AllByRecursion IsLineAt (process_lines_from at lines)
  lines_at at [] behind e = tt
  lines_at at (g.RateNamed name rate ∷ lines) behind e =
      let line : List Terminal = line_spelled (g.RateNamed name rate) in
      lines_at (at + length line) lines behind (behind_it ts at line (lines_spelled lines ++ behind) (e ∙ append_assoc line (lines_spelled lines) behind))
  lines_at at (g.ProcessNamed process ∷ lines) behind e =
      let line : List Terminal = line_spelled (g.ProcessNamed process) in
      let whole : StandFrom at line (lines_spelled lines ++ behind) = e ∙ append_assoc line (lines_spelled lines) behind in
      let more : List Terminal = lines_spelled lines ++ behind in
      let body : drop (at + 2) ts ≡ (process_spelled process ++ Mark Semicolon ∷ []) ++ more = behind_it ts at (Capital ∷ Mark Equals ∷ []) ((process_spelled process ++ Mark Semicolon ∷ []) ++ more) whole in (
        (
          first_there ts at Capital (Mark Equals ∷ ((process_spelled process ++ Mark Semicolon ∷ []) ++ more)) whole,
          process_at (at + 2) process ((Mark Semicolon ∷ []) ++ more) (body ∙ append_assoc (process_spelled process) (Mark Semicolon ∷ []) more),
        ),
        lines_at (at + length line) lines behind (behind_it ts at line more whole),
      )
  lines_at at (g.ProbeWritten target whole ∷ lines) behind e =
      let line : List Terminal = line_spelled (g.ProbeWritten target whole) in
      lines_at (at + length line) lines behind (behind_it ts at line (lines_spelled lines ++ behind) (e ∙ append_assoc line (lines_spelled lines) behind))

  each_body : (P : ℕ → Type 0) (lines : List ProcessLineNode) (i : ℕ) → AllByRecursion (λ (line : ProcessLineNode). (slice_get ts line.line_at ≡ Some Capital) × EachWord P line.body) lines → Contains (flat_map words_in (map (λ (line : ProcessLineNode). line.body) lines)) i → P i
  each_body P [] i h c = absurd (no_element i c)
  each_body P (line ∷ lines) i h c =
      elim (Contains-append_cases (words_in line.body) (flat_map words_in (map (λ (l : ProcessLineNode). l.body) lines)) i c) [
        | inl k ↦ word_holds P line.body i h.0.1 k
        | inr k ↦ each_body P lines i h.1 k
      ]

  each_name : (P : ℕ → Type 0) (lines : List ProcessLineNode) (i : ℕ) → AllByRecursion (λ (line : ProcessLineNode). (slice_get ts line.line_at ≡ Some Capital) × EachWord P line.body) lines → Contains (process_ats lines) i → slice_get ts i ≡ Some Capital
  each_name P [] i h c = absurd (no_element i c)
  each_name P (line ∷ lines) i h c =
      elim (contains_cases line.line_at (process_ats lines) i c) [
        | inl e ↦ subst (λ (n : ℕ). slice_get ts n ≡ Some Capital) e h.0.0
        | inr k ↦ each_name P lines i h.1 k
      ]

  bodies_then : (lines : List ProcessLineNode) (system : ProcessNode) (i : ℕ) → Contains (flat_map words_in (map (λ (line : ProcessLineNode). line.body) lines ++ system ∷ [])) i → Contains (flat_map words_in (map (λ (line : ProcessLineNode). line.body) lines)) i ⊎ Contains (words_in system) i
  bodies_then [] system i c = elim (Contains-append_cases (words_in system) [] i c) [ inl k ↦ inr k | inr k ↦ absurd (no_element i k) ]
  bodies_then (line ∷ lines) system i c =
      elim (Contains-append_cases (words_in line.body) (flat_map words_in (map (λ (l : ProcessLineNode). l.body) lines ++ system ∷ [])) i c) [
        | inl k ↦ inl (Contains-append_left (words_in line.body) (flat_map words_in (map (λ (l : ProcessLineNode). l.body) lines)) i k)
        | inr k ↦ elim (bodies_then lines system i k) [ inl m ↦ inl (Contains-append_right (words_in line.body) (flat_map words_in (map (λ (l : ProcessLineNode). l.body) lines)) i m) | inr m ↦ inr m ]
      ]

  module _ (file : g.File) (is : ts ≡ file_spelled file) where
    lines_are : AllByRecursion IsLineAt (file_tree file).processes
    lines_are = lines_at 0 file.lines (item_spelled (g.System file.system file.ending)) is

    system_is : EachWord IsWordAt (file_tree file).system
    system_is =
        process_at (length (lines_spelled file.lines)) file.system (ending_spelled file.ending)
        (from_there ts (item_spelled (g.System file.system file.ending)) (0 + length (lines_spelled file.lines)) (length (lines_spelled file.lines)) (omega arith)
        (behind_it ts 0 (lines_spelled file.lines) (item_spelled (g.System file.system file.ending)) is))

    pub line_name : (i : ℕ) → Contains (process_ats (file_tree file).processes) i → slice_get ts i ≡ Some Capital
    line_name i c = each_name IsWordAt (file_tree file).processes i lines_are c

    pub word_there : (i : ℕ) → Contains (flat_map words_in (processes_of (file_tree file))) i → IsWordAt i
    word_there i c =
        elim (bodies_then (file_tree file).processes (file_tree file).system i c) [
          | inl k ↦ each_body IsWordAt (file_tree file).processes i lines_are k
          | inr k ↦ word_holds IsWordAt (file_tree file).system i system_is k
        ]
