-- The places of what is wrong with the structure of a file.
use Rattle.std.proofs.Common.{◌≡◌, ℕ, ◌<◌, ◌≤◌, suc, zero, List, [], ◌∷◌, ◌++◌, length, map, refl, sym, ap, subst, ◌∙◌, get_or, Some, option_map, slice_get, arith, inl, inr}
use Rattle.std.specs.List.{Contains, AllByRecursion}
use Rattle.std.proofs.lemmas.Option.{slice_get_within, slice_get-get_or, slice_get-map, slice_get_read}
use Rattle.std.proofs.lemmas.List.Elements.{Contains-append_cases}
use Rattle.std.proofs.lemmas.List.{length-map}
use Rattle.pepa_rates.specs.declared.rate.Rate.{Rate}
use Rattle.pepa_lexer.specs.declared.kinds.Token.{Token}
use Rattle.pepa_reader.specs.declared.trees.FileTree.{FileTree}
use Rattle.pepa_reader.specs.declared.trees.ProcessLine.{ProcessLine}
use Rattle.token_grammar.specs.Terminals.{terminals, terminal_of, name_at}
use Rattle.pepa_reader.specs.Grammar.{file_spelled}
use Rattle.pepa_reader.specs.FileAnswers.{IsFileTree}
use Rattle.pepa_reader.specs.Trees.{FileNode, ProcessNode, ProcessLineNode, ConstantAt, PrefixAt, ChoiceOf, CoopAt, HideOf, file_node_of, file_tree, process_line_of}
use Rattle.pepa_resolver.specs.Parts.{process_ats}
use Rattle.pepa_resolver.specs.Faults.{IsLeast}
use Rattle.pepa_resolver.specs.Named.{Named, Naming, named, first_at, sequential_parts}
use Rattle.pepa_resolver.specs.ResolvedFiles.{IsNumberedFile}
use Rattle.pepa_resolver.specs.Numbers.{naming_of, named_bodies, named_system}
use Rattle.pepa_checks.specs.Structure.{NotSequentialAt, CompoundEdge, UnguardedEdge}
use Rattle.node_orders.specs.Cycles.{IsFirstCycle}
use Rattle.pepa_checks.proofs.EdgeLists.{edge_within}
use Rattle.pepa_checks.specs.declared.structure.EdgeKind.TheVariants as kinds
use Rattle.pepa_resolver.proofs.Within.{EachInProcess, EachInFile, Inside, file_inside}
use Rattle.node_orders.proofs.Elements.{contains_cases, contains_map_from, no_element, one_element}

-- ---- places

pub each_inside : (input : List ℕ) (tokens : List Token) (tree : FileTree) → IsFileTree (terminals input tokens) tree → EachInFile (Inside 0 (length tokens)) (file_node_of tree)
each_inside input tokens tree is =
    let count : length (file_spelled is.file) ≡ length tokens = ap length (sym is.spelled) ∙ length-map tokens (terminal_of input) in
    subst (EachInFile (Inside 0 (length tokens))) (sym is.tree_is) (subst (λ n. EachInFile (Inside 0 n) (file_tree is.file)) count (file_inside is.file))

pub first_each : (P : ℕ → Type 0) (naming : Naming) (process : ProcessNode) → EachInProcess P process → P (first_at (named naming process))
first_each P naming (ConstantAt at) each = each
first_each P naming (PrefixAt at rate next) each = each.0
first_each P naming (ChoiceOf left right) each = first_each P naming left each.0
first_each P naming (CoopAt at left right set) each = first_each P naming left each.1
first_each P naming (HideOf inner set) each = first_each P naming inner each.0

part_each : (P : ℕ → Type 0) (naming : Naming) (process : ProcessNode) (part : Named) → EachInProcess P process → Contains (sequential_parts (named naming process)) part → P (first_at part)
part_each P naming (ConstantAt at) part each among = absurd (no_element part among)
part_each P naming (PrefixAt at rate next) part each among =
    elim (contains_cases (named naming next) (sequential_parts (named naming next)) part among) [
      | inl e ↦ subst (λ p. P (first_at p)) e (first_each P naming next each.2)
      | inr there ↦ part_each P naming next part each.2 there
    ]
part_each P naming (ChoiceOf left right) part each among =
    let l = named naming left in
    let r = named naming right in
    elim (contains_cases l (r ∷ (sequential_parts l ++ sequential_parts r)) part among) [
      | inl e ↦ subst (λ p. P (first_at p)) e (first_each P naming left each.0)
      | inr more ↦ elim (contains_cases r (sequential_parts l ++ sequential_parts r) part more) [
        | inl e ↦ subst (λ p. P (first_at p)) e (first_each P naming right each.1)
        | inr inner ↦ elim (Contains-append_cases (sequential_parts l) (sequential_parts r) part inner) [
          | inl h ↦ part_each P naming left part each.0 h
          | inr h ↦ part_each P naming right part each.1 h
        ]
      ]
    ]
part_each P naming (CoopAt at left right set) part each among =
    elim (Contains-append_cases (sequential_parts (named naming left)) (sequential_parts (named naming right)) part among) [
      | inl h ↦ part_each P naming left part each.1 h
      | inr h ↦ part_each P naming right part each.2 h
    ]
part_each P naming (HideOf inner set) part each among = part_each P naming inner part each.0 among

all_among : {X : Type 0} (Q : X → Type 0) (xs : List X) (x : X) → AllByRecursion Q xs → Contains xs x → Q x
all_among Q [] x all h = absurd (no_element x h)
all_among Q (y ∷ xs) x all h = elim (contains_cases y xs x h) [ inl e ↦ subst Q e all.0 | inr there ↦ all_among Q xs x all.1 there ]

-- a part of a body or of the system begins at an index of the file
named_each : (P : ℕ → Type 0) (naming : Naming) (file : FileNode) (process part : Named) → EachInFile P file → Contains (named_bodies naming file ++ named_system naming file ∷ []) process → Contains (sequential_parts process) part → P (first_at part)
named_each P naming file process part each among inside =
    elim (Contains-append_cases (named_bodies naming file) (named_system naming file ∷ []) process among) [
      | inl h ↦ let line = contains_map_from (λ line. named naming line.body) file.processes process h in
          let each_of = all_among (λ line. P line.line_at × EachInProcess P line.body) file.processes line.0 each.processes line.1 in
          part_each P naming line.0.body part each_of.1 (subst (λ p. Contains (sequential_parts p) part) (sym line.2) inside)
      | inr h ↦ part_each P naming file.system part each.system (subst (λ p. Contains (sequential_parts p) part) (sym (one_element (named_system naming file) process h)) inside)
    ]

pub part_within : (input : List ℕ) (tokens : List Token) (tree : FileTree) (values : List Rate) (bodies : List Named) (system : Named) (i : ℕ) → IsFileTree (terminals input tokens) tree → IsNumberedFile input tokens (file_node_of tree) values bodies system → IsLeast (NotSequentialAt bodies system) i → i < length tokens
part_within input tokens tree values bodies system i is numbered least =
    let naming = naming_of (name_at input tokens) tokens (file_node_of tree) values in
    let stands = least.stands in
    let among = subst (λ bodies. Contains (bodies ++ system ∷ []) stands.0) numbered.bodies_are stands.1 in
    let among_all = subst (λ system. Contains (named_bodies naming (file_node_of tree) ++ system ∷ []) stands.0) numbered.system_is among in
    let inside = named_each (Inside 0 (length tokens)) naming (file_node_of tree) stands.0 stands.2.0 (each_inside input tokens tree is) among_all stands.2.1 in
    subst (λ n. n < length tokens) stands.2.3 inside.1

-- ---- lines of constants

pub same_count : (input : List ℕ) (tokens : List Token) (file : FileNode) (values : List Rate) (bodies : List Named) (system : Named) → IsNumberedFile input tokens file values bodies system → length bodies ≡ length file.processes
same_count input tokens file values bodies system numbered =
    ap length numbered.bodies_are ∙ length-map file.processes (λ line. named (naming_of (name_at input tokens) tokens file values) line.body)

pub compound_line : (input : List ℕ) (tokens : List Token) (file : FileNode) (values : List Rate) (bodies : List Named) (system : Named) (c : ℕ) → IsNumberedFile input tokens file values bodies system → IsFirstCycle (CompoundEdge bodies) c → c < length file.processes
compound_line input tokens file values bodies system c numbered first =
    omega (arith, same_count input tokens file values bodies system numbered, edge_within kinds.Compound bodies c first.cycle.1.0 first.cycle.1.1)

pub unguarded_line : (input : List ℕ) (tokens : List Token) (file : FileNode) (values : List Rate) (bodies : List Named) (system : Named) (c : ℕ) → IsNumberedFile input tokens file values bodies system → IsFirstCycle (UnguardedEdge bodies) c → c < length file.processes
unguarded_line input tokens file values bodies system c numbered first =
    omega (arith, same_count input tokens file values bodies system numbered, edge_within kinds.Unguarded bodies c first.cycle.1.0 first.cycle.1.1)

line_each : (P : ℕ → Type 0) (lines : List ProcessLineNode) (c i : ℕ) → AllByRecursion (λ line. P line.line_at × EachInProcess P line.body) lines → slice_get (process_ats lines) c ≡ Some i → P i
line_each P [] c i all e = cc
line_each P (line ∷ lines) zero i all e = let same : line.line_at ≡ i = cc in subst P same all.0.0
line_each P (line ∷ lines) (suc c) i all e = line_each P lines c i all.1 e

pub line_within : (input : List ℕ) (tokens : List Token) (tree : FileTree) (c i : ℕ) → IsFileTree (terminals input tokens) tree → slice_get (process_ats (map process_line_of tree.processes)) c ≡ Some i → i < length tokens
line_within input tokens tree c i is e = (line_each (Inside 0 (length tokens)) (map process_line_of tree.processes) c i (each_inside input tokens tree is).processes e).1

pub line_stands : (lines : List ProcessLine) (c : ℕ) (line : ProcessLine) → c < length lines → line ≡ get_or lines c line → slice_get (process_ats (map process_line_of lines)) c ≡ Some line.at
line_stands lines c line within is =
    slice_get-map (λ l. l.line_at) (map process_line_of lines) c
    ∙ ap (option_map (λ l. l.line_at)) (slice_get-map process_line_of lines c ∙ ap (option_map process_line_of) (slice_get_read lines (length lines) c line refl within is))
