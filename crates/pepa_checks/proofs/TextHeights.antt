-- How high the processes of a file are, from the length of its items.
use Rattle.std.proofs.Common.{ℕ, ◌+◌, ◌*◌, ◌≤◌, List, [], ◌∷◌, ◌++◌, length, inl, inr, sym, ap, subst, ◌∙◌, arith, length-append}
use Rattle.std.specs.List.{Contains, AllByRecursion}
use Rattle.std.proofs.lemmas.List.Elements.{Contains-append_cases}
use Rattle.pepa_rates.specs.declared.rate.Rate.{Rate}
use Rattle.pepa_lexer.specs.declared.kinds.Token.{Token}
use Rattle.pepa_lexer.specs.declared.kinds.Sign.TheVariants.{Semicolon, Closing, Dot, Plus, Slash, OpeningBrace, ClosingBrace}
use Rattle.token_grammar.specs.declared.terminal.Terminal.{Terminal}
use Rattle.token_grammar.specs.declared.terminal.Terminal.TheVariants.{Mark}
use Rattle.pepa_reader.specs.declared.trees.FileTree.{FileTree}
use Rattle.token_grammar.specs.Terminals.{terminals, name_at}
use Rattle.pepa_reader.specs.Grammar as g
use Rattle.pepa_reader.specs.Grammar.{words_spelled, rate_spelled, cooperation_spelled, process_spelled, choice_spelled, hidden_spelled, prefix_spelled, ending_spelled}
use Rattle.pepa_reader.specs.Trees.{ProcessLineNode, FileNode, file_node_of, file_tree, process_tree, choice_tree, hidden_tree, prefix_tree, process_lines_from}
use Rattle.pepa_reader.specs.FileAnswers.{most_tokens, AreShort, IsFileTree}
use Rattle.pepa_resolver.specs.Named.{Named, NamedConstant, NamedPrefix, NamedChoice, NamedCoop, NamedHide, Naming, named}
use Rattle.pepa_resolver.specs.Numbers.{naming_of, named_bodies, named_system}
use Rattle.pepa_resolver.specs.ResolvedFiles.{IsNumberedFile}
use Rattle.node_orders.proofs.Elements.{no_element, one_element, contains_cases, contains_map_from}
use Rattle.pepa_checks.specs.Heights.{height_in, most_height, AreLow}

pub some_height : (process : Named) → 1 ≤ height_in process
some_height (NamedConstant at c) = omega arith
some_height (NamedPrefix at action rate next) = omega arith
some_height (NamedChoice left right) = omega arith
some_height (NamedCoop left right set) = omega arith
some_height (NamedHide inner set) = omega arith

some_cooperation : (coop : g.Cooperation) → 1 ≤ length (cooperation_spelled coop)
some_cooperation g.Parallel = omega arith
some_cooperation (g.Sharing words) = omega arith

all_contained : {X : Type 0} (P : X → Type 0) (xs : List X) (x : X) → AllByRecursion P xs → Contains xs x → P x
all_contained P [] x all h = absurd (no_element x h)
all_contained P (y ∷ xs) x all h = elim (contains_cases y xs x h) [ inl e ↦ subst P e all.0 | inr there ↦ all_contained P xs x all.1 there ]

module _ (naming : Naming) where
  mutual
    process_height : (at : ℕ) (process : g.Process) → height_in (named naming (process_tree at process)) * 2 ≤ length (process_spelled process) + 1
    process_height at (g.OneChoice choice) = choice_height at choice
    process_height at (g.Cooperating process coop choice) =
        let e1 = length-append (process_spelled process) (cooperation_spelled coop ++ choice_spelled choice) in
        let e2 = length-append (cooperation_spelled coop) (choice_spelled choice) in
        let behind = at + length (process_spelled process) + length (cooperation_spelled coop) in
        let some = some_cooperation coop in
        let left = process_height at process in
        let right = choice_height behind choice in
        let l = some_height (named naming (process_tree at process)) in
        let r = some_height (named naming (choice_tree behind choice)) in
        omega arith

    choice_height : (at : ℕ) (choice : g.Choice) → height_in (named naming (choice_tree at choice)) * 2 ≤ length (choice_spelled choice) + 1
    choice_height at (g.OneHidden hidden) = hidden_height at hidden
    choice_height at (g.Chosen choice hidden) =
        let e = length-append (choice_spelled choice) (Mark Plus ∷ hidden_spelled hidden) in
        let behind = at + length (choice_spelled choice) + 1 in
        let left = choice_height at choice in
        let right = hidden_height behind hidden in
        let l = some_height (named naming (choice_tree at choice)) in
        let r = some_height (named naming (hidden_tree behind hidden)) in
        omega arith

    hidden_height : (at : ℕ) (hidden : g.Hidden) → height_in (named naming (hidden_tree at hidden)) * 2 ≤ length (hidden_spelled hidden) + 1
    hidden_height at (g.OnePrefix prefix) = prefix_height at prefix
    hidden_height at (g.Hiding hidden words) =
        let e = length-append (hidden_spelled hidden) (Mark Slash ∷ Mark OpeningBrace ∷ (words_spelled words ++ Mark ClosingBrace ∷ [])) in
        let inner = hidden_height at hidden in
        omega arith

    prefix_height : (at : ℕ) (prefix : g.Prefix) → height_in (named naming (prefix_tree at prefix)) * 2 ≤ length (prefix_spelled prefix) + 1
    prefix_height at (g.Activity word rate prefix) =
        let e = length-append (rate_spelled rate) (Mark Closing ∷ Mark Dot ∷ prefix_spelled prefix) in
        let inner = prefix_height (at + 3 + length (rate_spelled rate) + 2) prefix in
        omega arith
    prefix_height at g.Constant = omega arith
    prefix_height at (g.Grouped process) =
        let e = length-append (process_spelled process) (Mark Closing ∷ []) in
        let inner = process_height (at + 1) process in
        omega arith

  some_ending : (ending : g.Ending) → 1 ≤ length (ending_spelled ending)
  some_ending g.Open = omega arith
  some_ending g.Closed = omega arith

  lines_low : (at : ℕ) (lines : List g.Line) → AreShort lines → AllByRecursion (λ line. height_in (named naming line.body) ≤ most_height) (process_lines_from at lines)
  lines_low at [] short = tt
  lines_low at (g.RateNamed name rate ∷ lines) short = lines_low (at + length (g.line_spelled (g.RateNamed name rate))) lines short.1
  lines_low at (g.ProcessNamed process ∷ lines) short =
      let e = length-append (process_spelled process) (Mark Semicolon ∷ []) in
      let height = process_height (at + 2) process in
      let one : length (g.line_spelled (g.ProcessNamed process)) ≤ most_tokens = short.0 in
      (omega arith, lines_low (at + length (g.line_spelled (g.ProcessNamed process))) lines short.1)
  lines_low at (g.ProbeWritten target whole ∷ lines) short = lines_low (at + length (g.line_spelled (g.ProbeWritten target whole))) lines short.1

  system_low : (at : ℕ) (process : g.Process) (ending : g.Ending) → length (g.item_spelled (g.System process ending)) ≤ most_tokens → height_in (named naming (process_tree at process)) ≤ most_height
  system_low at process ending short =
      let e = length-append (process_spelled process) (ending_spelled ending) in
      let height = process_height at process in
      let some = some_ending ending in
      omega arith

  -- no process of a file with short items is high
  file_low : (file : g.File) → AreShort file.lines → length (g.item_spelled (g.System file.system file.ending)) ≤ most_tokens → AreLow (named_bodies naming (file_tree file) ++ named_system naming (file_tree file) ∷ [])
  file_low file short short_system process among =
      elim (Contains-append_cases (named_bodies naming (file_tree file)) (named_system naming (file_tree file) ∷ []) process among) [
        | inl h ↦ let line = contains_map_from (λ (line : ProcessLineNode). named naming line.body) (process_lines_from 0 file.lines) process h in
            subst (λ (p : Named). height_in p ≤ most_height) line.2
            (all_contained (λ (line : ProcessLineNode). height_in (named naming line.body) ≤ most_height) (process_lines_from 0 file.lines) line.0 (lines_low 0 file.lines short) line.1)
        | inr h ↦ subst (λ (p : Named). height_in p ≤ most_height) (one_element (named_system naming (file_tree file)) process h)
            (system_low (length (g.lines_spelled file.lines)) file.system file.ending short_system)
      ]

  -- nor one of the file that was read
  pub tree_low : (spelled : List Terminal) (tree : FileTree) → IsFileTree spelled tree → AreLow (named_bodies naming (file_node_of tree) ++ named_system naming (file_node_of tree) ∷ [])
  tree_low spelled tree is =
      subst (λ (file : FileNode). AreLow (named_bodies naming file ++ named_system naming file ∷ [])) (sym is.tree_is) (file_low is.file is.short is.short_system)

-- the bodies and the system of a file that was read are low
pub numbered_low : (input : List ℕ) (tokens : List Token) (tree : FileTree) (values : List Rate) (bodies : List Named) (system : Named) → IsFileTree (terminals input tokens) tree → IsNumberedFile input tokens (file_node_of tree) values bodies system → AreLow (bodies ++ system ∷ [])
numbered_low input tokens tree values bodies system is numbered =
    let naming = naming_of (name_at input tokens) tokens (file_node_of tree) values in
    subst (λ (ps : List Named). AreLow ps)
    (sym (ap (λ (bs : List Named). bs ++ system ∷ []) numbered.bodies_are ∙ ap (λ (s : Named). named_bodies naming (file_node_of tree) ++ s ∷ []) numbered.system_is))
    (tree_low naming (terminals input tokens) tree is)
