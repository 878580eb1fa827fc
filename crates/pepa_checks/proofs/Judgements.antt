-- What is told of a file without a fault up to its structure.
use Rattle.std.proofs.Common.{◌≡◌, ℕ, zero, suc, ◌<◌, List, [], ◌∷◌, length, map, inl, inr, refl, sym, ap, ◌∙◌, subst, arith, Some, slice_get, Err}
use Rattle.std.specs.List.{AllZip}
use Rattle.std.proofs.lemmas.List.{length-map}
use Rattle.indexmap.specs.IndexMap.{keys}
use Rattle.pepa_lexer.specs.declared.kinds.Token.{Token}
use Rattle.pepa_lexer.specs.TokenLists.{IsTokens}
use Rattle.pepa_reader.specs.declared.trees.FileTree.{FileTree}
use Rattle.token_grammar.specs.Terminals.{terminals, name_at}
use Rattle.pepa_reader.specs.Trees.{FileNode, probe_line_of, file_node_of}
use Rattle.pepa_reader.specs.FileAnswers.{IsFileTree}
use Rattle.pepa_model.specs.Expression.{Expression}
use Rattle.pepa_model.specs.PepaModel.{PepaModel, IsModel}
use Rattle.pepa_checks.specs.declared.structured_file.StructuredFile.{StructuredFile}
use Rattle.pepa_checks.specs.declared.cause.CheckCause.{CheckCause}
use Rattle.pepa_checks.specs.declared.cause.CheckCause.TheVariants.{Unsupported, Twice, UnknownName, TauInSet, BadRate, NotSequential, ModelCycle, Unguarded, TooMany, MixedChoice}
use Rattle.pepa_checks.specs.declared.cause.Refusal.{Refusal}
use Rattle.fault_ends.specs.declared.end.End.{End}
use Rattle.fault_ends.specs.declared.end.End.TheVariants.{Fault, Memory}
use Rattle.fault_ends.specs.Answers.{OkOrFault}
use Rattle.pepa_resolver.specs.Named.{Named, first_at}
use Rattle.pepa_resolver.specs.NamedTypes.{named_of, bodies_of}
use Rattle.pepa_resolver.specs.Numbers.{actions_of, constants_of}
use Rattle.pepa_checks.specs.Structure.{CompoundEdge, UnguardedEdge}
use Rattle.node_orders.specs.Graphs.{IsOrder}
use Rattle.pepa_checks.specs.StructuredFiles.{IsStructuredFile, IsStoppedFor}
use Rattle.pepa_checks.specs.declared.counting.Counted.{Counted}
use Rattle.pepa_checks.specs.declared.summand.Performed.{Performed}
use Rattle.pepa_checks.specs.Outline.{Outline, outline_of, outline_with}
use Rattle.pepa_checks.specs.Activities.{AreActivitiesOf, HasNoMixed, written_leaves}
use Rattle.pepa_checks.specs.Limits.{PassesLimit}
use Rattle.pepa_checks.specs.Summands.{ArePerformed}
use Rattle.pepa_checks.specs.Built.{IsBuilt}
use Rattle.pepa_checks.specs.CountedFiles.{IsCounted}
use Rattle.pepa_checks.specs.MadeModels.{made_of, MakesModel}
use Rattle.pepa_checks.specs.MixedLists.{activities}
use Rattle.pepa_checks.specs.FileViews.{IsOrderedFile, IsCountedFile}
use Rattle.pepa_checks.specs.FileEnds.{IsLateRefusal}
use Rattle.pepa_checks.specs.CheckedFiles.{Sound, IsOverLimit, IsModelOf, IsAtFaultFor}
use Rattle.pepa_checks.proofs.BuiltFiles.{sound_built}
use Rattle.pepa_checks.proofs.Counted.{EachOpens}
use Rattle.pepa_checks.proofs.Countings.{each_opens}
use Rattle.pepa_checks.proofs.DefinitionLists.{system_parts, are_bodies}
use Rattle.pepa_checks.proofs.Indices.{system_within, site_within}
use Rattle.pepa_checks.proofs.IsModels.{at_most, is_model}
use Rattle.pepa_checks.proofs.ModelShapes.{model_from}
use Rattle.pepa_checks.proofs.OneModel.{same_parts}
use Rattle.pepa_checks.proofs.Stops.{stopped_within}

-- ---- refusals

-- what stops a file up to its structure refuses it
pub stopped_refuses : (input : List ℕ) (tokens : List Token) (file : FileNode) (cause : CheckCause) (i : ℕ) → IsStoppedFor input tokens file cause i → IsAtFaultFor input tokens file cause i
stopped_refuses input tokens file TooMany i h = inl h
stopped_refuses input tokens file MixedChoice i h = elim h [ ]
stopped_refuses input tokens file _ i h = h

-- the index of a refusal is that of a token
pub at_a_token : (input : List ℕ) (tokens : List Token) (tree : FileTree) (cause : CheckCause) (i : ℕ) → IsFileTree (terminals input tokens) tree → IsAtFaultFor input tokens (file_node_of tree) cause i → i < length tokens
at_a_token input tokens tree TooMany i is (inl h) = stopped_within input tokens tree TooMany i is h
at_a_token input tokens tree TooMany i is (inr (sound, over, at)) =
    subst (λ (j : ℕ). j < length tokens) (sym at) (system_within input tokens tree sound.values sound.bodies sound.system is sound.numbered)
at_a_token input tokens tree MixedChoice i is (sound, within, first) =
    let leaf = first.mixed in
    site_within input tokens tree sound.values sound.bodies sound.system is sound.numbered sound.compounds first.leaf leaf.process leaf.opened leaf.place i leaf.first_written leaf.site
at_a_token input tokens tree Twice i is h = stopped_within input tokens tree Twice i is h
at_a_token input tokens tree UnknownName i is h = stopped_within input tokens tree UnknownName i is h
at_a_token input tokens tree TauInSet i is h = stopped_within input tokens tree TauInSet i is h
at_a_token input tokens tree BadRate i is h = stopped_within input tokens tree BadRate i is h
at_a_token input tokens tree NotSequential i is h = stopped_within input tokens tree NotSequential i is h
at_a_token input tokens tree ModelCycle i is h = stopped_within input tokens tree ModelCycle i is h
at_a_token input tokens tree Unguarded i is h = stopped_within input tokens tree Unguarded i is h
at_a_token input tokens tree Unsupported i is h = elim h [ ]

-- an end up to the structure is an end of the check
pub stopped_end : {T U : Type 0} (P : T → Type 0) (Q : U → Type 0) (input : List ℕ) (tokens : List Token) (file : FileNode) (end : End Refusal) → OkOrFault (Err end) P (λ refusal. IsStoppedFor input tokens file refusal.cause refusal.at) → OkOrFault (Err end) Q (λ refusal. IsAtFaultFor input tokens file refusal.cause refusal.at)
stopped_end P Q input tokens file (Fault refusal) h = stopped_refuses input tokens file refusal.cause refusal.at h
stopped_end P Q input tokens file Memory h = tt

-- ---- what leaves perform are their activities

module _ (outline : Outline) (bodies written : List Named) (each : EachOpens outline) where
  have_activities : (leaves : List Expression) (lists : List (List Performed)) → length lists ≡ length leaves → ((n : ℕ) (leaf : Expression) (list : List Performed) → slice_get leaves n ≡ Some leaf → slice_get lists n ≡ Some list → AreActivitiesOf outline leaf (activities list)) → AllZip (AreActivitiesOf outline) leaves (map activities lists)
  have_activities [] [] e at = tt
  have_activities [] (list ∷ lists) e at = absurd (omega arith)
  have_activities (leaf ∷ leaves) [] e at = absurd (omega arith)
  have_activities (leaf ∷ leaves) (list ∷ lists) e at =
      (at zero leaf list refl refl, have_activities leaves lists (omega arith) (λ n x l is list_is. at (suc n) x l is list_is))

  pub performed_activities : (lists : List (List Performed)) → ArePerformed outline bodies written lists → AllZip (AreActivitiesOf outline) outline.leaves (map activities lists)
  performed_activities lists are =
      have_activities outline.leaves lists are.one_each (λ n leaf list is list_is.
      let tree = each n leaf is in
      (tree.0, tree.1, ((are.each n leaf list is list_is).performed tree.0 tree.1).activities))

-- ---- a file that was found

module _ (input : List ℕ) (tokens : List Token) (tree : FileTree) (are : IsTokens input tokens) (is_tree : IsFileTree (terminals input tokens) tree) (found : StructuredFile) (is : IsStructuredFile input tokens (file_node_of tree) found) where
  abbrev bodies : List Named
  bodies = bodies_of found.numbered.bodies

  abbrev system : Named
  system = named_of found.numbered.system

  abbrev pub sound : Sound input tokens (file_node_of tree)
  sound = record {
    values = is.resolved.values;
    bodies = bodies;
    system = system;
    numbered = is.resolved.numbered;
    structured = is.structure.structured;
    compounds = found.structure.compounds;
    one_each = is.structure.one_each ∙ sym (length-map found.numbered.bodies named_of);
    table = is.structure.compounds;
  }

  abbrev outline : Outline
  outline = outline_of found.structure.compounds bodies system

  built : IsBuilt found.structure.compounds bodies system
  built = sound_built input tokens tree sound is_tree

  -- what counting and judging its parts needs
  pub ordered : IsOrderedFile found
  ordered = record {
    built = built;
    compounds = subst (λ (n : ℕ). IsOrder (CompoundEdge bodies) n found.structure.compound_order) (sym (length-map found.numbered.bodies named_of)) is.structure.compound_order;
    sequential = subst (λ (n : ℕ). IsOrder (UnguardedEdge bodies) n found.structure.sequential_order) (sym (length-map found.numbered.bodies named_of)) is.structure.sequential_order;
  }

  opens : EachOpens outline
  opens = each_opens (keys found.numbered.actions) found.structure.compounds bodies system found.structure.compound_order found.structure.sequential_order built ordered.compounds ordered.sequential

  within : ¬ PassesLimit (keys found.numbered.actions) outline → ¬ IsOverLimit sound
  within apart passes = apart (subst (λ (l : List (List ℕ)). PassesLimit l outline) (sym is.resolved.actions_are) passes)

  -- the refusal of a file that is counted and judged
  pub refuses : (cause : CheckCause) (i : ℕ) → IsLateRefusal found cause i → IsAtFaultFor input tokens (file_node_of tree) cause i
  refuses TooMany i h = inr (sound, subst (λ (l : List (List ℕ)). PassesLimit l outline) is.resolved.actions_are h.0, h.1)
  refuses MixedChoice i h = (sound, within h.0, h.1)
  refuses _ i h = elim h [ ]

  pub late_end : {T U : Type 0} (P : T → Type 0) (Q : U → Type 0) (end : End Refusal) → OkOrFault (Err end) P (λ refusal. IsLateRefusal found refusal.cause refusal.at) → OkOrFault (Err end) Q (λ refusal. IsAtFaultFor input tokens (file_node_of tree) refusal.cause refusal.at)
  late_end P Q (Fault refusal) h = refuses refusal.cause refusal.at h
  late_end P Q Memory h = tt

  -- ---- its model

  module _ (counted : Counted) (counts : IsCountedFile found counted) (unmixed : HasNoMixed outline) where
    performed : AllZip (AreActivitiesOf outline) outline.leaves (map activities counted.performed)
    performed = performed_activities outline bodies (written_leaves found.structure.compounds bodies system) opens counted.performed counts.performed_are

    abbrev parts : PepaModel
    parts = model_from (constants_of (name_at input tokens) (file_node_of tree)) (actions_of (name_at input tokens) (file_node_of tree)) outline (map activities counted.performed)

    is_sound : IsModel parts
    is_sound = is_model input tokens tree are is_tree sound found.structure.compound_order found.structure.sequential_order ordered.compounds ordered.sequential (map activities counted.performed) (within counts.within) unmixed performed

    same : made_of found counted ≡ parts
    same =
        let sets = counts.sets_are in
        same_parts (made_of found counted) parts is.resolved.constants_are is.resolved.actions_are
        (ap (λ (s : List (List ℕ)). (outline_with s found.structure.compounds bodies system).definitions) sets)
        counts.leaves_are refl sets
        (ap (λ (s : List (List ℕ)). (outline_with s found.structure.compounds bodies system).system) sets)

    pub ready : MakesModel found counted
    ready = record {
      few_sets =
          let few = at_most (length outline.sets) 1024 (λ lt. counts.within (inr (inl lt))) in
          let e : length (keys counted.sets) ≡ length outline.sets = ap (λ (l : List (List ℕ)). length l) counts.sets_are in
          omega arith;
      one_each = is.structure.one_each;
      bodies = are_bodies found.structure.compounds bodies system is.structure.structured.sequential sound.one_each is.structure.compounds;
      system = system_parts found.structure.compounds bodies system is.structure.structured.sequential;
      is_model = subst IsModel (sym same) is_sound;
    }

    pub read : (m : PepaModel) → tree.probes ≡ [] → m ≡ made_of found counted → IsModelOf input tokens (file_node_of tree) m
    read m none e = subst (IsModelOf input tokens (file_node_of tree)) (sym (e ∙ same)) (record {
      no_probes = ap (map probe_line_of) none;
      sound = sound;
      within = within counts.within;
      unmixed = unmixed;
      constants_are = refl;
      actions_are = refl;
      bodies_are = refl;
      sets_are = refl;
      leaves_are = refl;
      system_is = refl;
      activities_are = performed;
    })
