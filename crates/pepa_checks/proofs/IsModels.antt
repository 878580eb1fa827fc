-- The model of a file keeps what each model keeps.
use Rattle.std.proofs.Common.{◌≡◌, ℕ, zero, suc, ◌^◌, ◌<◌, ◌≤◌, inl, inr, Bool, true, false, nat_lt, List, [], ◌∷◌, ◌++◌, map, flat_map, length, sum_by, Some, slice_get, codes, refl, sym, ap, ◌∙◌, subst, arith}
use Rattle.std.specs.List.{Contains, AllByRecursion, AllZip}
use Rattle.std.proofs.lemmas.Bool.Decides.{nat_tests}
use Rattle.std.proofs.lemmas.List.{length-map}
use Rattle.std.proofs.lemmas.List.Sums.{sum_by-cons}
use Rattle.std.proofs.lemmas.List.Elements.{Contains-append_left, Contains-append_right}
use Rattle.pepa_lexer.specs.declared.kinds.Token.{Token}
use Rattle.pepa_lexer.specs.TokenLists.{IsTokens}
use Rattle.pepa_reader.specs.declared.trees.FileTree.{FileTree}
use Rattle.token_grammar.specs.Terminals.{terminals, name_at}
use Rattle.pepa_reader.specs.Trees.{RateNode, ProcessLineNode, FileNode, file_node_of}
use Rattle.pepa_reader.specs.FileAnswers.{IsFileTree}
use Rattle.pepa_model.specs.Expression.{Expression, Shape, IsCompound}
use Rattle.pepa_model.specs.Opened.{Opened, Opens, moves, height}
use Rattle.pepa_model.specs.Expanded.{leaves_in, nodes_in}
use Rattle.pepa_model.specs.Spelling.{IsWrittenRate, HasWrittenShape}
use Rattle.pepa_model.specs.PepaModel.{PepaModel, IsModel, IsSpelled, IsSoundLeaf, IsCompoundBody, HasTree, StandsForTransition, HasSmallTree, IsNumbered, IsWithinLimits, IsActionSet, AreUnmixed, IsMixedAt}
use Rattle.pepa_model.specs.declared.term.Activity.{Activity}
use Rattle.pepa_resolver.specs.Parts.{process_ats, processes_of}
use Rattle.pepa_resolver.specs.Outcomes.{Good}
use Rattle.pepa_resolver.specs.Named.{Named, Naming, named, constants_named}
use Rattle.pepa_resolver.specs.Numbers.{words_in, constants_of, actions_of, naming_of, named_bodies, named_system, IsInRange}
use Rattle.pepa_checks.specs.Structure.{CompoundEdge, UnguardedEdge}
use Rattle.node_orders.specs.Graphs.{AreBelow, IsOrder}
use Rattle.node_orders.proofs.Elements.{contains_here, contains_from_get}
use Rattle.pepa_resolver.proofs.NumberedParts.{in_range}
use Rattle.pepa_checks.specs.Outline.{Outline, sets_written, sets_of, shape_in, definitions_in}
use Rattle.pepa_checks.specs.Activities.{activity_in, AreActivitiesOf, HasNoMixed}
use Rattle.pepa_checks.specs.Sequences.{HasSequentialParts, AreBodies}
use Rattle.pepa_checks.specs.Built.{IsBuilt}
use Rattle.pepa_checks.specs.CheckedFiles.{Sound, outline, IsOverLimit}
use Rattle.pepa_checks.proofs.DefinitionLists.{system_parts, are_bodies}
use Rattle.pepa_checks.proofs.DefinitionsByNumber.{length-definitions, compound_by}
use Rattle.pepa_checks.proofs.ModelNames.{distinct_places, distinct_lines}
use Rattle.pepa_checks.proofs.ModelNumbers.{sets_by_place, actions_by_place}
use Rattle.pepa_checks.proofs.ModelSets.{sound_set}
use Rattle.pepa_checks.proofs.ModelShapes.{model_from, named_definitions, named_system_shape, system_sound, body_sound, no_leaf}
use Rattle.pepa_checks.proofs.LeafClosure.{activities_stand, activities_known, leaf_named}
use Rattle.pepa_checks.proofs.OneTree.{one_opening}
use Rattle.pepa_checks.proofs.Openings.{leaf_opens}
use Rattle.pepa_checks.proofs.Expansions.{system_expands, body_expands}
use Rattle.pepa_checks.proofs.BuiltFiles.{sound_built, named_from}
use Rattle.pepa_checks.proofs.WrittenRates.{activity_written}
use Rattle.pepa_checks.proofs.SpelledModels.{shape_written, definitions_written, constants_spelled, actions_spelled}

-- ---- limits as bounds

pub at_most : (n limit : ℕ) → ¬ (limit < n) → n ≤ limit
at_most n limit apart = by (nat_lt limit n) refl
  where
    by : (b : Bool) → nat_lt limit n ≡ b → n ≤ limit
    by true e = let lt : limit < n = grind (arith, nat_tests) in absurd (apart lt)
    by false e = grind (arith, nat_tests)

zip_at : {A B : Type 0} (R : A → B → Type 0) (xs : List A) (ys : List B) (n : ℕ) (x : A) → AllZip R xs ys → slice_get xs n ≡ Some x → (y : B) × (slice_get ys n ≡ Some y) × R x y
zip_at R [] ys n x h is = absurd cc
zip_at R (a ∷ xs) [] n x h is = absurd h
zip_at R (a ∷ xs) (b ∷ ys) zero x h is = let same : a ≡ x = cc in (b, refl, subst (λ z. R z b) same h.0)
zip_at R (a ∷ xs) (b ∷ ys) (suc n) x h is = zip_at R xs ys n x h.1 is

zip_back : {A B : Type 0} (R : A → B → Type 0) (xs : List A) (ys : List B) (n : ℕ) (y : B) → AllZip R xs ys → slice_get ys n ≡ Some y → (x : A) × (slice_get xs n ≡ Some x) × R x y
zip_back R [] [] n y h is = absurd cc
zip_back R [] (b ∷ ys) n y h is = absurd h
zip_back R (a ∷ xs) [] n y h is = absurd h
zip_back R (a ∷ xs) (b ∷ ys) zero y h is = let same : b ≡ y = cc in (a, refl, subst (λ z. R a z) same h.0)
zip_back R (a ∷ xs) (b ∷ ys) (suc n) y h is = zip_back R xs ys n y h.1 is

zip_length : {A B : Type 0} (R : A → B → Type 0) (xs : List A) (ys : List B) → AllZip R xs ys → length ys ≡ length xs
zip_length R [] [] h = refl
zip_length R [] (b ∷ ys) h = absurd h
zip_length R (a ∷ xs) [] h = absurd h
zip_length R (a ∷ xs) (b ∷ ys) h = ap suc (zip_length R xs ys h.1)

part_of_sum : (lists : List (List Activity)) (n : ℕ) (list : List Activity) → slice_get lists n ≡ Some list → length list ≤ sum_by length lists
part_of_sum [] n list is = absurd cc
part_of_sum (l ∷ lists) zero list is =
    let same : length l ≡ length list = ap length (same_list l list is) in
    let whole = sum_by-cons length l lists in
    omega arith
  where
    same_list : (x y : List Activity) → Some x ≡ Some y → x ≡ y
    same_list x y e = cc
part_of_sum (l ∷ lists) (suc n) list is =
    let rest = part_of_sum lists n list is in
    let whole = sum_by-cons length l lists in
    omega arith

-- the opened leaves have as many transitions as there are activities
record AreOpened (o : Outline) (leaves : List Expression) (activities : List (List Activity)) : Type 0 where
  opened : List Opened
  opens : AllZip (Opens o.definitions) leaves opened
  total : sum_by (λ tree. length (moves tree)) opened ≡ sum_by length activities

are_opened : (o : Outline) (leaves : List Expression) (activities : List (List Activity)) → AllZip (AreActivitiesOf o) leaves activities → AreOpened o leaves activities
are_opened o [] [] h = record { opened = []; opens = tt; total = refl }
are_opened o [] (a ∷ activities) h = absurd h
are_opened o (e ∷ leaves) [] h = absurd h
are_opened o (e ∷ leaves) (a ∷ activities) h =
    let rest = are_opened o leaves activities h.1 in
    let len : length a ≡ length (moves h.0.0) = ap length h.0.2 ∙ length-map (moves h.0.0) (activity_in o.leaves) in
    record {
      opened = h.0.0 ∷ rest.opened;
      opens = (h.0.1, rest.opens);
      total =
          let more : sum_by (λ tree. length (moves tree)) rest.opened ≡ sum_by length activities = rest.total in
          let left = sum_by-cons (λ tree. length (moves tree)) h.0.0 rest.opened in
          let right = sum_by-cons length a activities in
          omega arith;
    }

-- ---- the model

module _ (input : List ℕ) (tokens : List Token) (tree : FileTree) (are : IsTokens input tokens) (is_tree : IsFileTree (terminals input tokens) tree) (sound : Sound input tokens (file_node_of tree))
    (compound_order sequential_order : List ℕ) (compounds_first : IsOrder (CompoundEdge sound.bodies) (length sound.bodies) compound_order) (sequential_first : IsOrder (UnguardedEdge sound.bodies) (length sound.bodies) sequential_order)
    (activities : List (List Activity)) (within : ¬ IsOverLimit sound) (unmixed : HasNoMixed (outline sound)) (are_activities : AllZip (AreActivitiesOf (outline sound)) (outline sound).leaves activities) where
  abbrev file : FileNode
  file = file_node_of tree

  abbrev name : ℕ → List ℕ
  name = name_at input tokens

  abbrev naming : Naming
  naming = naming_of name tokens file sound.values

  abbrev bodies : List Named
  bodies = sound.bodies

  abbrev compounds : List Bool
  compounds = sound.compounds

  abbrev sets : List (List ℕ)
  sets = sets_of bodies sound.system

  abbrev m : PepaModel
  m = model_from (constants_of name file) (actions_of name file) (outline sound) activities

  built : IsBuilt compounds bodies sound.system
  built = sound_built input tokens tree sound is_tree

  parts : AreBodies compounds bodies
  parts = are_bodies compounds bodies sound.system built.sequential sound.one_each sound.table

  last_parts : HasSequentialParts sound.system
  last_parts = system_parts compounds bodies sound.system built.sequential

  count : length bodies ≡ length (constants_of name file)
  count =
      ap length sound.numbered.bodies_are ∙ length-map file.processes (λ (line : ProcessLineNode). named naming line.body)
      ∙ sym (length-map (process_ats file.processes) name ∙ length-map file.processes (λ (line : ProcessLineNode). line.line_at))

  range : (process : Named) → Contains (bodies ++ sound.system ∷ []) process → IsInRange (length (constants_of name file)) (length (actions_of name file)) process
  range process among =
      let whole : Contains (named_bodies naming file ++ named_system naming file ∷ []) process =
      subst (λ (ps : List Named). Contains ps process)
      (ap (λ (bs : List Named). bs ++ sound.system ∷ []) sound.numbered.bodies_are ∙ ap (λ (s : Named). named_bodies naming file ++ s ∷ []) sound.numbered.system_is) among in
      let from = named_from naming file process whole in
      let r = in_range name tokens file sound.values sound.numbered.fine.0.1 from.0 from.1 in
      let lines : length file.processes ≡ length (constants_of name file) = sym (length-map (process_ats file.processes) name ∙ length-map file.processes (λ (line : ProcessLineNode). line.line_at)) in
      subst (λ (n : ℕ). IsInRange n (length (actions_of name file)) process) lines (subst (IsInRange (length file.processes) (length (actions_of name file))) from.2 r)

  body_range : (c : ℕ) (body : Named) → slice_get bodies c ≡ Some body → IsInRange (length m.constants) (length m.actions) body
  body_range c body is = range body (Contains-append_left bodies (sound.system ∷ []) body (contains_from_get bodies c body is))

  system_range : IsInRange (length m.constants) (length m.actions) sound.system
  system_range = range sound.system (Contains-append_right bodies (sound.system ∷ []) sound.system (contains_here sound.system []))

  one_each : length m.bodies ≡ length m.constants
  one_each = length-definitions compounds sets compounds bodies sound.one_each ∙ count

  limits : IsWithinLimits m
  limits =
      let opened = are_opened (outline sound) (outline sound).leaves activities are_activities in
      let total : sum_by (λ tree. length (moves tree)) opened.opened ≡ sum_by length activities = opened.total in
      record {
        constants = let few = built.few in let e = count in omega arith;
        actions = at_most (length m.actions) 1025 (λ lt. within (inl lt));
        sets = at_most (length m.sets) 1024 (λ lt. within (inr (inl lt)));
        leaves = at_most (length m.leaves) 65535 (λ lt. within (inr (inr (inl lt))));
        activities = at_most (sum_by length activities) 65535 (λ lt. within (inr (inr (inr (inl (opened.opened, opened.opens, subst (λ (n : ℕ). 65535 < n) (sym total) lt))))));
      }

  sound_leaf : (number : ℕ) (e : Expression) → slice_get m.leaves number ≡ Some e → IsSoundLeaf m number e
  sound_leaf number e at =
      let low = leaf_opens sets compounds bodies sound.system sequential_order built sequential_first number e at in
      let found = zip_at (AreActivitiesOf (outline sound)) (outline sound).leaves activities number e are_activities at in
      let has : AreActivitiesOf (outline sound) e found.0 = found.2 in
      let opened : Opened = has.0 in
      let opens : Opens m.bodies e opened = has.1 in
      let same : low.0 ≡ opened = one_opening m.bodies e low.0 opened low.1 opens in
      let among : Contains m.leaves e = contains_from_get m.leaves number e at in
      let named_all = named_definitions m compounds sets compounds bodies parts body_range in
      let named_last = named_system_shape m compounds sets sound.system last_parts system_range in
      record {
        opened = opened;
        opens = opens;
        shallow = subst (λ (o : Opened). height o ≤ 2 ^ 21) same low.2;
        activities = found.0;
        stored = found.1;
        stand = subst (λ (l : List Activity). AllZip (StandsForTransition m.leaves) l (moves opened)) (sym has.2) (activities_stand m.bodies m.system number e opened at opens);
        few = let part = part_of_sum activities number found.0 found.1 in let all = limits.activities in omega arith;
        known = subst (AllByRecursion (λ (a : Activity). a.action < length m.actions)) (sym has.2) (activities_known m m.bodies m.system one_each named_all named_last e opened among opens);
        named = leaf_named m m.bodies m.system one_each named_all named_last e among;
      }

  are_unmixed : (number : ℕ) (list : List Activity) → slice_get activities number ≡ Some list → AreUnmixed list
  are_unmixed number list at place mixed =
      let found = zip_back (AreActivitiesOf (outline sound)) (outline sound).leaves activities number list are_activities at in
      unmixed number found.0 found.1 (found.2.0, found.2.1, (place, subst (λ (l : List Activity). IsMixedAt l place) found.2.2 mixed))

  below_all : (process : Named) → IsInRange (length m.constants) (length m.actions) process → AreBelow (length bodies) (constants_named process)
  below_all process r = subst (λ (n : ℕ). AreBelow n (constants_named process)) (sym count) r.constants_below

  compound_body : (c : ℕ) (shape : Shape) → IsCompound m.bodies c shape → IsCompoundBody m shape
  compound_body c shape is =
      let by = compound_by compounds sets compounds bodies c shape is in
      let tree = body_expands sets compounds bodies sound.system compound_order built compounds_first c shape is in
      subst (IsCompoundBody m) by.is (record {
        no_leaf = no_leaf m.constants m.actions activities compounds bodies sound.system sound.one_each sound.table c by.body by.flag_at by.body_at (parts.parts c by.body by.body_at);
        is_shape = body_sound m.constants m.actions activities compounds bodies sound.system sound.one_each c by.body by.flag_at by.body_at (below_all by.body (body_range c by.body by.body_at));
        expanded = subst (HasTree m) (sym by.is) (record { tree = tree.0; expands = tree.1; shallow = tree.2 });
      })

  small_tree : HasSmallTree m
  small_tree =
      let tree = system_expands sets compounds bodies sound.system compound_order built compounds_first in
      record {
        expanded = record { tree = tree.0; expands = tree.1; shallow = tree.2 };
        leaves = at_most (leaves_in tree.0) 255 (λ lt. within (inr (inr (inr (inr (inl (tree.0, tree.1, lt)))))));
        nodes = at_most (nodes_in tree.0) 1023 (λ lt. within (inr (inr (inr (inr (inr (tree.0, tree.1, lt)))))));
      }

  numbered : IsNumbered m
  numbered = record {
    constants = distinct_lines name (process_ats file.processes) (λ i repeated. sound.numbered.fine.0.0.1 i (inr repeated));
    actions = distinct_places (codes "tau" ∷ map name (flat_map words_in (processes_of file)));
    sets = distinct_places (flat_map sets_written bodies ++ sets_written sound.system);
    actions_by_place = actions_by_place compounds bodies sound.system sound.one_each parts last_parts name file naming (λ i. refl) sound.numbered.bodies_are sound.numbered.system_is;
    sets_by_place = sets_by_place compounds bodies sound.system sound.one_each parts last_parts;
    leaves_by_place = refl;
  }

  action_set : (number : ℕ) (set : List ℕ) → slice_get m.sets number ≡ Some set → IsActionSet m set
  action_set number set at =
      let same : sets_of bodies sound.system ≡ sets_of (named_bodies naming file) (named_system naming file) =
      ap (λ (bs : List Named). sets_of bs sound.system) sound.numbered.bodies_are ∙ ap (sets_of (named_bodies naming file)) sound.numbered.system_is in
      let s = sound_set input tokens file naming are sound.numbered.fine.1 (λ i. refl) number set (subst (λ (l : List (List ℕ)). slice_get l number ≡ Some set) same at) in
      record { ascends = s.ascends; no_tau = s.no_tau; known = s.known }

  written : (node : RateNode) → IsWrittenRate (naming.rate_of node)
  written node = activity_written tokens name file.rates (map Good sound.values) sound.numbered.rates.lines node

  spelled : IsSpelled m
  spelled = record {
    constants = λ c text is. constants_spelled input tokens is_tree.file are is_tree.spelled c text (subst (λ (f : FileNode). slice_get (constants_of name f) c ≡ Some text) is_tree.tree_is is);
    actions = λ a text some is. actions_spelled input tokens is_tree.file are is_tree.spelled a text some (subst (λ (f : FileNode). slice_get (actions_of name f) a ≡ Some text) is_tree.tree_is is);
    bodies = λ c definition is. definitions_written naming written compounds sets compounds file.processes c definition (subst (λ (bs : List Named). slice_get (definitions_in compounds sets compounds bs) c ≡ Some definition) sound.numbered.bodies_are is);
    system = subst (λ (s : Named). HasWrittenShape (shape_in compounds sets s)) (sym sound.numbered.system_is) (shape_written naming written compounds sets file.system);
  }

  pub is_model : IsModel m
  is_model = record {
    bodies = one_each;
    tau = refl;
    leaves = sound_leaf;
    activities = zip_length (AreActivitiesOf (outline sound)) (outline sound).leaves activities are_activities;
    unmixed = are_unmixed;
    sets = action_set;
    compounds = compound_body;
    system = system_sound m.constants m.actions activities compounds bodies sound.system sound.one_each (below_all sound.system system_range);
    small_tree = small_tree;
    numbered = numbered;
    spelled = spelled;
    limits = limits;
  }
