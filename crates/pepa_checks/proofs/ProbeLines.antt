-- A file with probe lines is refused at the first of them, and a file without is judged by its other lines.
use Rattle.std.proofs.Common.{◌≡◌, ℕ, ◌+◌, ◌<◌, ◌≤◌, ◌⊎◌, List, [], ◌∷◌, ◌++◌, length, map, inl, inr, refl, sym, ap, ◌∙◌, subst, length-append, arith, Some, None, slice_get}
use Rattle.std.proofs.lemmas.List.{length-map}
use Rattle.std.proofs.lemmas.Option.{same_Some}
use Rattle.pepa_lexer.specs.declared.kinds.Token.{Token}
use Rattle.token_grammar.specs.Terminals.{terminals, terminal_of}
use Rattle.pepa_reader.specs.declared.trees.ProbeLine.{ProbeLine}
use Rattle.pepa_reader.specs.declared.trees.FileTree.{FileTree}
use Rattle.pepa_reader.specs.Grammar.{Line, RateNamed, ProcessNamed, ProbeWritten, System, line_spelled, lines_spelled, item_spelled}
use Rattle.pepa_reader.specs.Trees.{ProbeLineNode, FileNode, probe_line_of, probe_lines_from, file_node_of}
use Rattle.pepa_reader.specs.FileAnswers.{IsFileTree}
use Rattle.pepa_model.specs.PepaModel.{PepaModel}
use Rattle.pepa_checks.specs.declared.cause.CheckCause.{CheckCause}
use Rattle.pepa_checks.specs.declared.cause.CheckCause.TheVariants.{Unsupported}
use Rattle.pepa_checks.specs.CheckedFiles.{IsAtFaultFor, IsFirstProbe, IsRefusedFor, IsModelOf}
use Rattle.pepa_checks.proofs.Judgements.{at_a_token}
use Rattle.pepa_checks.proofs.OneRefusal.{one_fault, at_fault_or_read}

-- ---- refusals

-- a refusal is one for a probe line, or one of a file without
abbrev IsRefusalCase : List ℕ → List Token → FileNode → CheckCause → ℕ → Type 0
IsRefusalCase input tokens file cause i = ((cause ≡ Unsupported) × IsFirstProbe file.probes i) ⊎ ((file.probes ≡ []) × IsAtFaultFor input tokens file cause i)

refusal_cases : (input : List ℕ) (tokens : List Token) (file : FileNode) (cause : CheckCause) (i : ℕ) → IsRefusedFor input tokens file cause i → IsRefusalCase input tokens file cause i
refusal_cases input tokens file Unsupported i h = inl (refl, h)
refusal_cases input tokens file _ i h = inr h

-- a fault of a file without probe lines refuses it
pub fault_refuses : (input : List ℕ) (tokens : List Token) (file : FileNode) (cause : CheckCause) (i : ℕ) → file.probes ≡ [] → IsAtFaultFor input tokens file cause i → IsRefusedFor input tokens file cause i
fault_refuses input tokens file Unsupported i none h = elim h [ ]
fault_refuses input tokens file _ i none h = (none, h)

-- a file with a probe line isn't one without
some_probe : (file : FileNode) (i : ℕ) → IsFirstProbe file.probes i → ¬ (file.probes ≡ [])
some_probe file i h none = differ (sym none ∙ h.2)
  where
    differ : [] ≡ h.0 ∷ h.1 → ⊥
    differ e = cc

-- it has one first probe line
one_probe : (file : FileNode) (i j : ℕ) → IsFirstProbe file.probes i → IsFirstProbe file.probes j → i ≡ j
one_probe file i j h k = h.3 ∙ ap (λ (line : ProbeLineNode). line.line_at) (same (sym h.2 ∙ k.2)) ∙ sym k.3
  where
    same : h.0 ∷ h.1 ≡ k.0 ∷ k.1 → h.0 ≡ k.0
    same e = cc

-- ---- the index

-- the index of the first line, if there is one
abbrev line_at_of : ℕ → List ProbeLineNode → ℕ
line_at_of other [] = other
line_at_of other (line ∷ more) = line.line_at

-- it is among the lines
first_inside : (at : ℕ) (lines : List Line) (line : ProbeLineNode) (more : List ProbeLineNode) → probe_lines_from at lines ≡ line ∷ more → line.line_at < at + length (lines_spelled lines)
first_inside at [] line more e = absurd (none e)
  where
    none : [] ≡ line ∷ more → ⊥
    none h = cc
first_inside at (RateNamed name rate ∷ lines) line more e =
    let long = length-append (line_spelled (RateNamed name rate)) (lines_spelled lines) in
    let inside = first_inside (at + length (line_spelled (RateNamed name rate))) lines line more e in
    omega arith
first_inside at (ProcessNamed process ∷ lines) line more e =
    let long = length-append (line_spelled (ProcessNamed process)) (lines_spelled lines) in
    let inside = first_inside (at + length (line_spelled (ProcessNamed process))) lines line more e in
    omega arith
first_inside at (ProbeWritten target whole ∷ lines) line more e =
    let here : at ≡ line.line_at = ap (line_at_of at) e in
    omega arith

pub probe_within : (input : List ℕ) (tokens : List Token) (tree : FileTree) (i : ℕ) → IsFileTree (terminals input tokens) tree → IsFirstProbe (file_node_of tree).probes i → i < length tokens
probe_within input tokens tree i is h =
    let lines = is.file.lines in
    let inside = first_inside 0 lines h.0 h.1 (ap (λ (file : FileNode). file.probes) (sym is.tree_is) ∙ h.2) in
    let count : length (terminals input tokens) ≡ length tokens = length-map tokens (terminal_of input) in
    let whole = ap length is.spelled in
    let long = length-append (lines_spelled lines) (item_spelled (System is.file.system is.file.ending)) in
    omega (arith, h.3)

pub refused_at_a_token : (input : List ℕ) (tokens : List Token) (tree : FileTree) (cause : CheckCause) (i : ℕ) → IsFileTree (terminals input tokens) tree → IsRefusedFor input tokens (file_node_of tree) cause i → i < length tokens
refused_at_a_token input tokens tree cause i is h = elim (refusal_cases input tokens (file_node_of tree) cause i h) [ inl p ↦ probe_within input tokens tree i is p.1 | inr f ↦ at_a_token input tokens tree cause i is f.1 ]

-- ---- one outcome

pub one_refusal : (input : List ℕ) (tokens : List Token) (tree : FileTree) (cause other : CheckCause) (i j : ℕ) → IsFileTree (terminals input tokens) tree → IsRefusedFor input tokens (file_node_of tree) cause i → IsRefusedFor input tokens (file_node_of tree) other j → (cause ≡ other) × (i ≡ j)
one_refusal input tokens tree cause other i j is h k = by_cases (refusal_cases input tokens (file_node_of tree) cause i h) (refusal_cases input tokens (file_node_of tree) other j k)
  where
    by_cases : IsRefusalCase input tokens (file_node_of tree) cause i → IsRefusalCase input tokens (file_node_of tree) other j → (cause ≡ other) × (i ≡ j)
    by_cases (inl p) (inl q) = (p.0 ∙ sym q.0, one_probe (file_node_of tree) i j p.1 q.1)
    by_cases (inl p) (inr f) = absurd (some_probe (file_node_of tree) i p.1 f.0)
    by_cases (inr f) (inl q) = absurd (some_probe (file_node_of tree) j q.1 f.0)
    by_cases (inr f) (inr g) = one_fault input tokens tree cause other i j is f.1 g.1

pub refused_or_read : (input : List ℕ) (tokens : List Token) (tree : FileTree) (cause : CheckCause) (i : ℕ) (m : PepaModel) → IsFileTree (terminals input tokens) tree → IsRefusedFor input tokens (file_node_of tree) cause i → ¬ IsModelOf input tokens (file_node_of tree) m
refused_or_read input tokens tree cause i m is h read = elim (refusal_cases input tokens (file_node_of tree) cause i h) [ inl p ↦ some_probe (file_node_of tree) i p.1 read.no_probes | inr f ↦ at_fault_or_read input tokens tree cause i m is f.1 read ]

-- ---- the program's lines

-- the first of the program's lines, if there is one
pub no_first : (lines : List ProbeLine) → slice_get lines 0 ≡ None → lines ≡ []
no_first [] e = refl
no_first (line ∷ more) e = cc

pub is_first : (lines : List ProbeLine) (line : ProbeLine) → slice_get lines 0 ≡ Some line → IsFirstProbe (map probe_line_of lines) line.at
is_first [] line e = cc
is_first (first ∷ more) line e = (probe_line_of first, map probe_line_of more, refl, ap (λ (l : ProbeLine). l.at) (sym (same_Some first line e)))

-- no lines of the program, none of the file
pub none_written : (tree : FileTree) → tree.probes ≡ [] → (file_node_of tree).probes ≡ []
none_written tree e = ap (map probe_line_of) e
