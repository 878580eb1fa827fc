-- The processes of a file without a fault up to its structure.
use Rattle.std.proofs.Common.{◌≡◌, ℕ, ◌<◌, ◌≤◌, Bool, List, [], ◌∷◌, ◌++◌, map, length, get_or, inl, inr, refl, sym, ap, subst, ◌∙◌, arith}
use Rattle.std.specs.List.{Contains}
use Rattle.std.proofs.lemmas.Option.{slice_get-get_or}
use Rattle.std.proofs.lemmas.List.{length-map}
use Rattle.std.proofs.lemmas.List.Elements.{Contains-append_left, Contains-append_right, Contains-append_cases}
use Rattle.pepa_rates.specs.declared.rate.Rate.{Rate}
use Rattle.pepa_lexer.specs.declared.kinds.Token.{Token}
use Rattle.pepa_reader.specs.declared.trees.FileTree.{FileTree}
use Rattle.token_grammar.specs.Terminals.{terminals, name_at}
use Rattle.pepa_reader.specs.Trees.{ProcessNode, ProcessLineNode, FileNode, file_node_of}
use Rattle.pepa_reader.specs.FileAnswers.{IsFileTree}
use Rattle.pepa_resolver.specs.Parts.{process_ats, processes_of}
use Rattle.pepa_resolver.specs.Faults.{HasNone, TooManyAt}
use Rattle.pepa_resolver.specs.Named.{Named, Naming, named, constants_named}
use Rattle.pepa_resolver.specs.NamedTypes.{HasConstantsBelow}
use Rattle.pepa_resolver.specs.Numbers.{naming_of, named_bodies, named_system}
use Rattle.node_orders.specs.Graphs.{AreBelow, IsTableOf}
use Rattle.pepa_checks.specs.Structure.{IsCompoundConstant, NotSequentialAt}
use Rattle.pepa_checks.specs.StructureAnswers.{IsStructured}
use Rattle.pepa_resolver.specs.ResolvedFiles.{IsNumberedFile}
use Rattle.node_orders.proofs.Elements.{one_element, contains_one, contains_map_from, contains_map_to}
use Rattle.pepa_resolver.proofs.NumberedParts.{in_range}
use Rattle.pepa_checks.specs.Heights.{height_in, most_height, AreLow}
use Rattle.pepa_checks.specs.Built.{IsBuilt}
use Rattle.pepa_checks.specs.CheckedFiles.{Sound}
use Rattle.pepa_checks.proofs.TextHeights.{numbered_low}

few_lines : (file : FileNode) → HasNone (TooManyAt file) → length file.processes ≤ 1024
few_lines file none = by (length (process_ats file.processes)) refl
  where
    past : 1024 < length (process_ats file.processes) → ⊥
    past long = none (get_or (process_ats file.processes) 1024 0) (inr (slice_get-get_or (process_ats file.processes) 1024 0 long))

    by : (n : ℕ) → length (process_ats file.processes) ≡ n → length file.processes ≤ 1024
    by n e = omega (arith, past, length-map file.processes (λ (line : ProcessLineNode). line.line_at))

-- a process with numbers is one of the file's
pub named_from : (naming : Naming) (file : FileNode) (process : Named) → Contains (named_bodies naming file ++ named_system naming file ∷ []) process → (node : ProcessNode) × Contains (processes_of file) node × (named naming node ≡ process)
named_from naming file process among =
    elim (Contains-append_cases (named_bodies naming file) (named_system naming file ∷ []) process among) [
      | inl h ↦ let line = contains_map_from (λ (line : ProcessLineNode). named naming line.body) file.processes process h in
          (line.0.body, Contains-append_left (map (λ (l : ProcessLineNode). l.body) file.processes) (file.system ∷ []) line.0.body (contains_map_to (λ (l : ProcessLineNode). l.body) file.processes line.0 line.1), line.2)
      | inr h ↦ (file.system, Contains-append_right (map (λ (l : ProcessLineNode). l.body) file.processes) (file.system ∷ []) file.system (contains_one file.system), one_element (named_system naming file) process h)
    ]

module _ (input : List ℕ) (tokens : List Token) (tree : FileTree) (values : List Rate) (bodies : List Named) (system : Named) (numbered : IsNumberedFile input tokens (file_node_of tree) values bodies system) where
  abbrev naming : Naming
  naming = naming_of (name_at input tokens) tokens (file_node_of tree) values

  same_count : length bodies ≡ length (file_node_of tree).processes
  same_count = ap length numbered.bodies_are ∙ length-map (file_node_of tree).processes (λ (line : ProcessLineNode). named naming line.body)

  known : HasConstantsBelow (length bodies) (bodies ++ system ∷ [])
  known process among =
      let whole : Contains (named_bodies naming (file_node_of tree) ++ named_system naming (file_node_of tree) ∷ []) process =
      subst (λ (ps : List Named). Contains ps process)
      (ap (λ (bs : List Named). bs ++ system ∷ []) numbered.bodies_are ∙ ap (λ (s : Named). named_bodies naming (file_node_of tree) ++ s ∷ []) numbered.system_is) among in
      let from = named_from naming (file_node_of tree) process whole in
      let range = in_range (name_at input tokens) tokens (file_node_of tree) values numbered.fine.0.1 from.0 from.1 in
      subst (λ (n : ℕ). AreBelow n (constants_named process)) (sym same_count)
      (subst (λ (p : Named). AreBelow (length (file_node_of tree).processes) (constants_named p)) from.2 range.constants_below)

  -- they have no fault of their structure, whatever table says which constants are compound
  pub is_built : (compounds : List Bool) → IsFileTree (terminals input tokens) tree → IsStructured bodies system → length compounds ≡ length bodies → IsTableOf (IsCompoundConstant bodies) compounds → IsBuilt compounds bodies system
  is_built compounds is structured one_each table = record {
    one_each = one_each;
    table = table;
    sequential = structured.sequential;
    known = known;
    few = omega (arith, same_count, few_lines (file_node_of tree) numbered.fine.0.0.0);
    low = numbered_low input tokens tree values bodies system is numbered;
  }

pub sound_built : (input : List ℕ) (tokens : List Token) (tree : FileTree) (sound : Sound input tokens (file_node_of tree)) → IsFileTree (terminals input tokens) tree → IsBuilt sound.compounds sound.bodies sound.system
sound_built input tokens tree sound is =
    is_built input tokens tree sound.values sound.bodies sound.system sound.numbered sound.compounds is sound.structured sound.one_each sound.table

-- the same, from what holds of the bodies and of the system
pub built_from : (compounds : List Bool) (bodies : List Named) (system : Named) → length compounds ≡ length bodies → IsTableOf (IsCompoundConstant bodies) compounds → HasNone (NotSequentialAt bodies system) → HasConstantsBelow (length bodies) bodies → AreBelow (length bodies) (constants_named system) → length bodies ≤ 1024 → AreLow bodies → height_in system ≤ most_height → IsBuilt compounds bodies system
built_from compounds bodies system one_each table sequential known_bodies known_system few low_bodies low_system = record {
  one_each = one_each;
  table = table;
  sequential = sequential;
  known = λ process among. elim (Contains-append_cases bodies (system ∷ []) process among) [
    | inl h ↦ known_bodies process h
    | inr h ↦ subst (λ (p : Named). AreBelow (length bodies) (constants_named p)) (one_element system process h) known_system
  ];
  few = few;
  low = λ process among. elim (Contains-append_cases bodies (system ∷ []) process among) [
    | inl h ↦ low_bodies process h
    | inr h ↦ subst (λ (p : Named). height_in p ≤ most_height) (one_element system process h) low_system
  ];
}
