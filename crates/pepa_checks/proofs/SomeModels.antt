-- A file has a model or the cause of a refusal.
use Rattle.std.proofs.Common.{◌≡◌, ℕ, zero, suc, ◌<◌, ◌≤◌, ◌⊎◌, inl, inr, Bool, true, false, List, [], ◌∷◌, ◌++◌, length, get_or, Some, slice_get, refl, sym, ◌∙◌, ap, subst, arith}
use Rattle.std.specs.List.{Contains, AllZip}
use Rattle.std.proofs.lemmas.List.{length-map}
use Rattle.std.proofs.lemmas.List.Elements.{Contains-append_left}
use Rattle.std.proofs.lemmas.Option.{slice_get_within, slice_get-get_or}
use Rattle.pepa_lexer.specs.declared.kinds.Token.{Token}
use Rattle.pepa_reader.specs.declared.trees.FileTree.{FileTree}
use Rattle.token_grammar.specs.Terminals.{terminals, name_at}
use Rattle.pepa_reader.specs.Trees.{ProbeLineNode, ProcessLineNode, FileNode, file_tree, file_node_of}
use Rattle.pepa_reader.specs.FileAnswers.{IsFileTree}
use Rattle.pepa_model.specs.Expression.{Expression}
use Rattle.pepa_model.specs.PepaModel.{PepaModel, IsModel}
use Rattle.pepa_model.specs.declared.term.Activity.{Activity}
use Rattle.node_orders.specs.Cycles.{ReachesItself, IsFirstCycle, HasNoCycle}
use Rattle.node_orders.specs.Graphs.{IsOrder, IsTableOf}
use Rattle.node_orders.proofs.Elements.{no_element, contains_from_get}
use Rattle.pepa_resolver.specs.Faults.{HasNone, IsLeast}
use Rattle.pepa_resolver.specs.Named.{Named, NamedConstant, constants_named, unguarded, first_at}
use Rattle.pepa_resolver.specs.NamedTypes.{HasConstantsBelow}
use Rattle.pepa_resolver.specs.Numbers.{constants_of, actions_of}
use Rattle.pepa_resolver.specs.Parts.{process_ats}
use Rattle.pepa_resolver.proofs.OneRefusal.{Numbering}
use Rattle.pepa_checks.specs.declared.cause.CheckCause.{CheckCause}
use Rattle.pepa_checks.specs.declared.cause.CheckCause.TheVariants.{TooMany, MixedChoice}
use Rattle.pepa_checks.specs.declared.cause.CheckCause.TheVariants as causes
use Rattle.pepa_checks.specs.declared.structure.Misbuilt.{Misbuilt}
use Rattle.pepa_checks.specs.declared.structure.Misbuilt.TheVariants.{NotSequential, ModelCycle, Unguarded}
use Rattle.pepa_checks.specs.Structure.{IsCompoundBy, IsCompoundConstant, NotSequentialAt, CompoundEdge, UnguardedEdge}
use Rattle.pepa_checks.specs.StructureAnswers.{IsStructured, IsMisbuiltBy}
use Rattle.pepa_checks.specs.StructuredFiles.{told_cause_of, IsStoppedFor, IsToldAt}
use Rattle.pepa_checks.specs.Outline.{Outline, sets_of}
use Rattle.pepa_checks.specs.Activities.{AreActivitiesOf, HasMixed, HasNoMixed, written_leaves}
use Rattle.pepa_checks.specs.Built.{IsBuilt}
use Rattle.pepa_checks.specs.CheckedFiles.{Sound, outline, IsOverLimit, IsAtFaultFor, IsModelOf, IsShortTextOf}
use Rattle.pepa_checks.specs.Existence.{HasModelOrRefusal}
use Rattle.pepa_checks.proofs.Bodies.{same_body}
use Rattle.pepa_checks.proofs.BuiltFiles.{sound_built}
use Rattle.pepa_checks.proofs.Counted.{EachOpens}
use Rattle.pepa_checks.proofs.Countings.{each_opens}
use Rattle.pepa_checks.proofs.EdgeLists.{edge_within, edges_below}
use Rattle.pepa_checks.specs.declared.structure.EdgeKind.TheVariants as kinds
use Rattle.pepa_checks.proofs.IsModels.{is_model}
use Rattle.pepa_checks.proofs.Judgements.{stopped_refuses}
use Rattle.pepa_checks.proofs.ProbeLines.{fault_refuses}
use Rattle.pepa_checks.proofs.ModelShapes.{model_from}
use Rattle.pepa_checks.proofs.PlainProcesses.{not_compound}
use Rattle.pepa_checks.proofs.OneModel.{same_parts}
use Rattle.pepa_checks.proofs.SomeTrees.{some_tree}
use Rattle.pepa_checks.proofs.Stops.{told_stops, has_line, misbuilt_stops}
use Rattle.pepa_checks.proofs.SomeLeaves.{some_activities, some_mixed}
use Rattle.pepa_checks.proofs.SomeNumbers.{some_numbers}
use Rattle.pepa_checks.proofs.SomeOrders.{AreTargets, some_order}
use Rattle.pepa_checks.proofs.Unavoidable.{not_both, split, some_least, some_table}

-- ---- cycles and orders of constants

some_cycle : (Edge : ℕ → ℕ → Type 0) → (HasNoCycle Edge ⊎ ((c : ℕ) × IsFirstCycle Edge c) → ⊥) → ⊥
some_cycle Edge apart =
    some_least (ReachesItself Edge) (λ found. elim found [
      | inl none ↦ apart (inl none)
      | inr first ↦ apart (inr (first.0, record { cycle = first.1.stands; first = λ other less back. not_both other first.0 less (first.1.least other back) }))
    ])

compound_inside : (bodies : List Named) (n c : ℕ) → IsCompoundBy bodies n c → c < length bodies
compound_inside bodies zero c h = slice_get_within bodies c h.0 h.1
compound_inside bodies (suc n) c h = slice_get_within bodies c (NamedConstant h.0 h.1) h.2

body_of : (bodies : List Named) (c : ℕ) → c < length bodies → (body : Named) × (slice_get bodies c ≡ Some body)
body_of bodies c low = (get_or bodies c (NamedConstant 0 0), slice_get-get_or bodies c (NamedConstant 0 0) low)

module _ (compounds : List Bool) (bodies : List Named) (one_each : length compounds ≡ length bodies) (table : IsTableOf (IsCompoundConstant bodies) compounds) where
  flag_at : (c : ℕ) → c < length bodies → slice_get compounds c ≡ Some (get_or compounds c false)
  flag_at c low = slice_get-get_or compounds c false (omega arith)

  compound_targets : (c : ℕ) → c < length bodies → (targets : List ℕ) × AreTargets (CompoundEdge bodies) c targets
  compound_targets c low = by (get_or compounds c false) (flag_at c low) (body_of bodies c low)
    where
      by : (b : Bool) → slice_get compounds c ≡ Some b → (body : Named) × (slice_get bodies c ≡ Some body) → (targets : List ℕ) × AreTargets (CompoundEdge bodies) c targets
      by true set (body, at) = (
        constants_named body,
        record {
          sound = λ d among. (table.sound c set, (body, at, among));
          complete = λ d edge. subst (λ (b : Named). Contains (constants_named b) d) (same_body bodies c edge.1.0 body edge.1.1 at) edge.1.2;
        },
      )
      by false unset (body, at) = (
        [],
        record {
          sound = λ d among. absurd (no_element d among);
          complete = λ d edge. absurd (not_compound compounds bodies one_each table c unset edge.0);
        },
      )

  unguarded_targets : (c : ℕ) → c < length bodies → (targets : List ℕ) × AreTargets (UnguardedEdge bodies) c targets
  unguarded_targets c low = by (get_or compounds c false) (flag_at c low) (body_of bodies c low)
    where
      by : (b : Bool) → slice_get compounds c ≡ Some b → (body : Named) × (slice_get bodies c ≡ Some body) → (targets : List ℕ) × AreTargets (UnguardedEdge bodies) c targets
      by true set (body, at) = (
        [],
        record {
          sound = λ d among. absurd (no_element d among);
          complete = λ d edge. absurd (edge.0 (table.sound c set));
        },
      )
      by false unset (body, at) = (
        unguarded body,
        record {
          sound = λ d among. (not_compound compounds bodies one_each table c unset, (body, at, among));
          complete = λ d edge. subst (λ (b : Named). Contains (unguarded b) d) (same_body bodies c edge.1.0 body edge.1.1 at) edge.1.2;
        },
      )

-- both orders of the constants
record HasOrders (bodies : List Named) : Type 0 where
  compound : List ℕ
  compounds_first : IsOrder (CompoundEdge bodies) (length bodies) compound
  sequential : List ℕ
  sequential_first : IsOrder (UnguardedEdge bodies) (length bodies) sequential

-- the constants of a file without a fault of its structure have them
some_orders : (compounds : List Bool) (bodies : List Named) (system : Named) → IsBuilt compounds bodies system → IsStructured bodies system → HasOrders bodies
some_orders compounds bodies system built structured =
    let known : HasConstantsBelow (length bodies) bodies = λ process among. built.known process (Contains-append_left bodies (system ∷ []) process among) in
    let first = some_order (CompoundEdge bodies) (length bodies) (edge_within kinds.Compound bodies) (λ edges the. edges_below kinds.Compound (length bodies) bodies edges known the) (compound_targets compounds bodies built.one_each built.table) structured.compound in
    let second = some_order (UnguardedEdge bodies) (length bodies) (edge_within kinds.Unguarded bodies) (λ edges the. edges_below kinds.Unguarded (length bodies) bodies edges known the) (unguarded_targets compounds bodies built.one_each built.table) structured.guarded in
    record { compound = first.0; compounds_first = first.1; sequential = second.0; sequential_first = second.1 }

-- ---- a file without a fault up to its structure

module _ (input : List ℕ) (tokens : List Token) (tree : FileTree) (is_tree : IsFileTree (terminals input tokens) tree) where
  abbrev file : FileNode
  file = file_node_of tree

  -- the file has no fault
  abbrev HasNoFault : Type 0
  HasNoFault = (cause : CheckCause) (i : ℕ) → ¬ IsAtFaultFor input tokens (file_node_of tree) cause i

  stops_not : HasNoFault → (cause : CheckCause) (i : ℕ) → ¬ IsStoppedFor input tokens file cause i
  stops_not none cause i h = none cause i (stopped_refuses input tokens file cause i h)

  module _ (x : Numbering input tokens (file_node_of tree)) where
    abbrev line_of : ℕ → ℕ
    line_of c = get_or (process_ats file.processes) c 0

    line_at : (c : ℕ) → c < length file.processes → slice_get (process_ats file.processes) c ≡ Some (line_of c)
    line_at c low = slice_get-get_or (process_ats file.processes) c 0 (omega (arith, length-map file.processes (λ (line : ProcessLineNode). line.line_at)))

    misbuilt_not : HasNoFault → (fault : Misbuilt) → ¬ IsMisbuiltBy x.bodies x.system fault
    misbuilt_not none (NotSequential i) h = stops_not none causes.NotSequential i (misbuilt_stops input tokens file x.values x.bodies x.system x.numbered (NotSequential i) causes.NotSequential i h (refl, refl))
    misbuilt_not none (ModelCycle c) h = stops_not none causes.ModelCycle (line_of c) (misbuilt_stops input tokens file x.values x.bodies x.system x.numbered (ModelCycle c) causes.ModelCycle (line_of c) h (refl, line_at c (has_line input tokens file x.values x.bodies x.system x.numbered (ModelCycle c) h)))
    misbuilt_not none (Unguarded c) h = stops_not none causes.Unguarded (line_of c) (misbuilt_stops input tokens file x.values x.bodies x.system x.numbered (Unguarded c) causes.Unguarded (line_of c) h (refl, line_at c (has_line input tokens file x.values x.bodies x.system x.numbered (Unguarded c) h)))

    some_structure : HasNoFault → (IsStructured x.bodies x.system → ⊥) → ⊥
    some_structure none apart =
        some_least (NotSequentialAt x.bodies x.system) (λ parts. elim parts [
          | inr first ↦ misbuilt_not none (NotSequential first.0) first.1
          | inl sequential ↦ some_cycle (CompoundEdge x.bodies) (λ compound. elim compound [
            | inr first ↦ misbuilt_not none (ModelCycle first.0) (sequential, first.1)
            | inl grounded ↦ some_cycle (UnguardedEdge x.bodies) (λ plain. elim plain [
              | inr first ↦ misbuilt_not none (Unguarded first.0) (sequential, grounded, first.1)
              | inl guarded ↦ apart (record { sequential = sequential; compound = grounded; guarded = guarded })
            ])
          ])
        ])

    some_sound : IsStructured x.bodies x.system → (Sound input tokens (file_node_of tree) → ⊥) → ⊥
    some_sound structured apart =
        some_table (IsCompoundConstant x.bodies) (length x.bodies) (λ c h. compound_inside x.bodies h.0 c h.1) (λ table. apart (record {
          values = x.values;
          bodies = x.bodies;
          system = x.system;
          numbered = x.numbered;
          structured = structured;
          compounds = table.0;
          one_each = table.1;
          table = table.2;
        }))

  -- ---- its model

  module _ (sound : Sound input tokens (file_node_of tree)) where
    abbrev pub whole_model : List (List Activity) → PepaModel
    whole_model activities = model_from (constants_of (name_at input tokens) (file_node_of tree)) (actions_of (name_at input tokens) (file_node_of tree)) (outline sound) activities

    model_is : (file_node_of tree).probes ≡ [] → (activities : List (List Activity)) → ¬ IsOverLimit sound → HasNoMixed (outline sound) → AllZip (AreActivitiesOf (outline sound)) (outline sound).leaves activities → IsModelOf input tokens (file_node_of tree) (whole_model activities)
    model_is bare activities within unmixed are = record {
      no_probes = bare;
      sound = sound;
      within = within;
      unmixed = unmixed;
      constants_are = refl;
      actions_are = refl;
      bodies_are = refl;
      sets_are = refl;
      leaves_are = refl;
      system_is = refl;
      activities_are = are;
    }

    from_sound : (file_node_of tree).probes ≡ [] → ((m : PepaModel) → ¬ IsModelOf input tokens (file_node_of tree) m) → HasNoFault → ⊥
    from_sound bare no_model none =
        let built = sound_built input tokens tree sound is_tree in
        let orders = some_orders sound.compounds sound.bodies sound.system built sound.structured in
        let each : EachOpens (outline sound) = each_opens (actions_of (name_at input tokens) file) sound.compounds sound.bodies sound.system orders.compound orders.sequential built orders.compounds_first orders.sequential_first in
        split (IsOverLimit sound) (λ limits. elim limits [
          | inl over ↦ none TooMany (first_at sound.system) (inr (sound, over, refl))
          | inr within ↦ some_least (λ number. (leaf : Expression) × (slice_get (outline sound).leaves number ≡ Some leaf) × HasMixed (outline sound) leaf) (λ found. elim found [
            | inl unmixed ↦
                let (activities, are) = some_activities (outline sound) (outline sound).leaves each in
                no_model (whole_model activities) (model_is bare activities within (λ number leaf at mixed. unmixed number (leaf, at, mixed)) are)
            | inr first ↦
                let (leaf, at, mixed) = first.1.stands in
                some_mixed (sets_of sound.bodies sound.system) sound.compounds sound.bodies sound.system built each first.0 leaf at mixed (λ place.
                none MixedChoice place.0 (
                  sound,
                  within,
                  record {
                    number = first.0;
                    leaf = leaf;
                    is_leaf = at;
                    mixed = place.1;
                    first = λ other earlier less is again. not_both other first.0 less (first.1.least other (earlier, is, again));
                  },
                ))
          ])
        ])

  -- a file without probe lines can't have neither a model nor a fault
  model_or_fault : (file_node_of tree).probes ≡ [] → ((m : PepaModel) → ¬ IsModelOf input tokens (file_node_of tree) m) → HasNoFault → ⊥
  model_or_fault bare no_model none =
      some_numbers input tokens file (λ numbers. elim numbers [
        | inr fault ↦ stops_not none (told_cause_of fault.0) fault.1 (told_stops input tokens file fault.0 fault.1 fault.2)
        | inl x ↦ some_structure x none (λ structured. some_sound x structured (λ sound. from_sound sound bare no_model none))
      ])

pub some_model : (input : List ℕ) (tokens : List Token) (tree : FileTree) → IsFileTree (terminals input tokens) tree → HasModelOrRefusal input tokens tree
some_model input tokens tree is_tree no_model none = by (file_node_of tree).probes refl
  where
    by : (probes : List ProbeLineNode) → (file_node_of tree).probes ≡ probes → ⊥
    by [] bare = model_or_fault input tokens tree is_tree bare no_model (λ cause i h. none cause i (fault_refuses input tokens (file_node_of tree) cause i bare h))
    by (line ∷ more) is = none causes.Unsupported line.line_at (line, more, is, refl)

-- ---- the model of a text

-- a text's model keeps what each model keeps
pub text_keeps : (input : List ℕ) (m : PepaModel) → IsShortTextOf input m → IsModel m
text_keeps input m reads =
    let text = reads.text in
    let made = some_tree (file_tree text.file) in
    let tree : FileTree = made.0 in
    let is_tree : IsFileTree (terminals input text.tokens) tree = record { file = text.file; spelled = text.spelled; short = reads.short_lines; short_system = reads.short_system; tree_is = made.1 } in
    let is : IsModelOf input text.tokens (file_node_of tree) m = subst (λ (f : FileNode). IsModelOf input text.tokens f m) (sym made.1) text.is_model in
    let are : AllZip (AreActivitiesOf (outline is.sound)) (outline is.sound).leaves m.activities = subst (λ (l : List Expression). AllZip (AreActivitiesOf (outline is.sound)) l m.activities) is.leaves_are is.activities_are in
    let whole = whole_model input text.tokens tree is_tree is.sound m.activities in
    let same : m ≡ whole = same_parts m whole is.constants_are is.actions_are is.bodies_are is.leaves_are refl is.sets_are is.system_is in
    let orders = some_orders is.sound.compounds is.sound.bodies is.sound.system (sound_built input text.tokens tree is.sound is_tree) is.sound.structured in
    subst IsModel (sym same) (is_model input text.tokens tree text.are_tokens is_tree is.sound orders.compound orders.sequential orders.compounds_first orders.sequential_first m.activities is.within is.unmixed are)
