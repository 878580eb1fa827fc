-- The outline of processes that are a model's parts is the model's: its sets, its system, and what its constants stand for.
use Rattle.std.proofs.Common.{◌≡◌, ℕ, zero, suc, Bool, true, false, if◌then◌else◌, List, [], ◌∷◌, ◌++◌, map, flat_map, get_or, Some, slice_get, refl, sym, ap, ◌∙◌}
use Rattle.std.specs.List.{AllZip}
use Rattle.std.proofs.lemmas.List.{map-append}
use Rattle.std.proofs.lemmas.Option.{get_or_from_slice_get}
use Rattle.pepa_model.specs.Expression.{Expression, Const, Prefixed, Chosen, Shape, LeafShape, ConstShape, CoopShape, HideShape, Definition, Sequentially, Compoundly}
use Rattle.pepa_model.specs.Leaves.{sets_in, sets_defined, set_numbers}
use Rattle.pepa_model.specs.PepaModel.{PepaModel, IsModel, IsShapeOf}
use Rattle.pepa_resolver.specs.Named.{Named, NamedConstant, NamedPrefix, NamedChoice, NamedCoop, NamedHide}
use Rattle.pepa_resolver.specs.Numbers.{first_places, place_in}
use Rattle.pepa_checks.specs.Outline.{Outline, is_compound, sets_written, sets_of, shape_in, definition_in, definitions_in, outline_with, outline_from, outline_of}
use Rattle.pepa_printer.proofs.Shown.{ShowsShape, ShowsDefinition, AreShown, model_outline}
use Rattle.pepa_printer.proofs.FirstPlaces.{first_places_are, place_at}
use Rattle.pepa_printer.proofs.ShownExpressions.{shown_no_sets, shown_expression}
use Rattle.pepa_printer.proofs.OpenedLeaves.{opened_sequential}
use Rattle.pepa_printer.proofs.ShownCompounds.{stands_for_system, flags_of, flag_is}

module _ (m : PepaModel) (sound : IsModel m) where
  abbrev set_at : ℕ → List ℕ
  set_at n = get_or m.sets n []

  abbrev flags : List Bool
  flags = flags_of m.bodies

  -- ---- sets

  set_is : (k : ℕ) (set : List ℕ) → slice_get m.sets k ≡ Some set → set ≡ set_at k
  set_is k set at = sym (get_or_from_slice_get m.sets k set [] at)

  shape_sets : (shape : Shape) (node : Named) → ShowsShape m shape node → sets_written node ≡ map set_at (sets_in shape)
  shape_sets (LeafShape e) node h = shown_no_sets e node h
  shape_sets (ConstShape c) (NamedConstant at d) h = refl
  shape_sets (CoopShape x y k) (NamedCoop left right set) h =
      ap (λ (l : List (List ℕ)). l ++ (set ∷ sets_written right)) (shape_sets x left h.0)
      ∙ ap (λ (l : List (List ℕ)). map set_at (sets_in x) ++ (set ∷ l)) (shape_sets y right h.1)
      ∙ ap (λ (s : List ℕ). map set_at (sets_in x) ++ (s ∷ map set_at (sets_in y))) (set_is k set h.2)
      ∙ sym (map-append set_at (sets_in x) (k ∷ sets_in y))
  shape_sets (HideShape x k) (NamedHide inner set) h =
      ap (λ (l : List (List ℕ)). l ++ set ∷ []) (shape_sets x inner h.0)
      ∙ ap (λ (s : List ℕ). map set_at (sets_in x) ++ s ∷ []) (set_is k set h.1)
      ∙ sym (map-append set_at (sets_in x) (k ∷ []))
  shape_sets shape node h = absurd h

  definition_sets : (d : Definition) (node : Named) → ShowsDefinition m d node → sets_written node ≡ map set_at (sets_defined d)
  definition_sets (Sequentially e) node h = shown_no_sets e node h
  definition_sets (Compoundly shape) node h = shape_sets shape node h

  bodies_sets : (definitions : List Definition) (bodies : List Named) → AllZip (ShowsDefinition m) definitions bodies → flat_map sets_written bodies ≡ map set_at (flat_map sets_defined definitions)
  bodies_sets [] [] h = refl
  bodies_sets [] (node ∷ bodies) h = absurd h
  bodies_sets (d ∷ definitions) [] h = absurd h
  bodies_sets (d ∷ definitions) (node ∷ bodies) h =
      ap (λ (l : List (List ℕ)). l ++ flat_map sets_written bodies) (definition_sets d node h.0)
      ∙ ap (λ (l : List (List ℕ)). map set_at (sets_defined d) ++ l) (bodies_sets definitions bodies h.1)
      ∙ sym (map-append set_at (sets_defined d) (flat_map sets_defined definitions))

  sets_are : (bodies : List Named) (system : Named) → AreShown m bodies system → sets_of bodies system ≡ m.sets
  sets_are bodies system shown =
      let written : flat_map sets_written bodies ++ sets_written system ≡ map set_at (set_numbers m.bodies m.system) =
      ap (λ (l : List (List ℕ)). l ++ sets_written system) (bodies_sets m.bodies bodies shown.bodies_are)
      ∙ ap (λ (l : List (List ℕ)). map set_at (flat_map sets_defined m.bodies) ++ l) (shape_sets m.system system shown.system_is)
      ∙ sym (map-append set_at (flat_map sets_defined m.bodies) (sets_in m.system)) in
      ap first_places written ∙ first_places_are m.sets (set_numbers m.bodies m.system) sound.numbered.sets sound.numbered.sets_by_place

  -- ---- systems

  -- a constant that is a leaf has no flag
  leaf_flag : (c : ℕ) → IsShapeOf m (LeafShape (Const c)) → is_compound flags c ≡ false
  leaf_flag c (number, at) =
      let leaf = sound.leaves number (Const c) at in
      let (body, defines) = opened_sequential m.bodies c (leaf.opened, leaf.opens) in
      flag_is m.bodies c (Sequentially body) defines

  compound_flag : (c : ℕ) → IsShapeOf m (ConstShape c) → is_compound flags c ≡ true
  compound_flag c (shape, at) = flag_is m.bodies c (Compoundly shape) at

  constant_shape : (b : Bool) (c d : ℕ) → d ≡ c → b ≡ false → (if b then ConstShape d else LeafShape (Const d)) ≡ LeafShape (Const c)
  constant_shape true c d same e = absurd cc
  constant_shape false c d same e = ap (λ (n : ℕ). LeafShape (Const n)) same

  compound_shape : (b : Bool) (c d : ℕ) → d ≡ c → b ≡ true → (if b then ConstShape d else LeafShape (Const d)) ≡ ConstShape c
  compound_shape true c d same e = ap (λ (n : ℕ). ConstShape n) same
  compound_shape false c d same e = absurd cc

  shape_is : (shape : Shape) (node : Named) → ShowsShape m shape node → IsShapeOf m shape → shape_in flags m.sets node ≡ shape
  shape_is (LeafShape (Const c)) (NamedConstant at d) h is =
      constant_shape (is_compound flags d) c d h (ap (λ (n : ℕ). is_compound flags n) h ∙ leaf_flag c is)
  shape_is (LeafShape (Prefixed a r next)) (NamedPrefix at b s node) h is =
      ap (λ (e : Expression). LeafShape e) (shown_expression (Prefixed a r next) (NamedPrefix at b s node) h)
  shape_is (LeafShape (Chosen x y)) (NamedChoice left right) h is =
      ap (λ (e : Expression). LeafShape e) (shown_expression (Chosen x y) (NamedChoice left right) h)
  shape_is (ConstShape c) (NamedConstant at d) h is =
      compound_shape (is_compound flags d) c d h (ap (λ (n : ℕ). is_compound flags n) h ∙ compound_flag c is)
  shape_is (CoopShape x y k) (NamedCoop left right set) h is =
      ap (λ (s : Shape). CoopShape s (shape_in flags m.sets right) (place_in m.sets set)) (shape_is x left h.0 is.0)
      ∙ ap (λ (s : Shape). CoopShape x s (place_in m.sets set)) (shape_is y right h.1 is.1)
      ∙ ap (λ (n : ℕ). CoopShape x y n) (place_at m.sets k set sound.numbered.sets h.2)
  shape_is (HideShape x k) (NamedHide inner set) h is =
      ap (λ (s : Shape). HideShape s (place_in m.sets set)) (shape_is x inner h.0 is.0)
      ∙ ap (λ (n : ℕ). HideShape x n) (place_at m.sets k set sound.numbered.sets h.1)
  shape_is shape node h is = absurd h

  -- ---- what the constants stand for

  abbrev IsFine : Definition → Type 0
  IsFine d = (shape : Shape) → d ≡ Compoundly shape → IsShapeOf m shape

  definition_is : (d : Definition) (node : Named) → ShowsDefinition m d node → IsFine d → definition_in flags m.sets (stands_for_system d) node ≡ d
  definition_is (Sequentially e) node h fine = ap (λ (x : Expression). Sequentially x) (shown_expression e node h)
  definition_is (Compoundly shape) node h fine = ap (λ (s : Shape). Compoundly s) (shape_is shape node h (fine shape refl))

  definitions_are : (definitions : List Definition) (bodies : List Named) → AllZip (ShowsDefinition m) definitions bodies
      → ((c : ℕ) (d : Definition) → slice_get definitions c ≡ Some d → IsFine d) → definitions_in flags m.sets (flags_of definitions) bodies ≡ definitions
  definitions_are [] [] h fine = refl
  definitions_are [] (node ∷ bodies) h fine = absurd h
  definitions_are (d ∷ definitions) [] h fine = absurd h
  definitions_are (d ∷ definitions) (node ∷ bodies) h fine =
      ap (λ (x : Definition). x ∷ definitions_in flags m.sets (flags_of definitions) bodies) (definition_is d node h.0 (fine zero d refl))
      ∙ ap (λ (l : List Definition). d ∷ l) (definitions_are definitions bodies h.1 (λ c x at. fine (suc c) x at))

  -- ---- the outline

  abbrev outlined : List Expression → Outline
  outlined leaves = record { definitions = m.bodies; sets = m.sets; leaves = leaves; system = m.system }

  pub outline_is : (bodies : List Named) (system : Named) → AreShown m bodies system → outline_of flags bodies system ≡ model_outline m
  outline_is bodies system shown =
      ap (λ (sets : List (List ℕ)). outline_with sets flags bodies system) (sets_are bodies system shown)
      ∙ ap (λ (definitions : List Definition). outline_from m.sets definitions (shape_in flags m.sets system))
      (definitions_are m.bodies bodies shown.bodies_are (λ c d at shape is. (sound.compounds c shape (at ∙ ap (λ (x : Definition). Some x) is)).is_shape))
      ∙ ap (λ (shape : Shape). outline_from m.sets m.bodies shape) (shape_is m.system system shown.system_is sound.system)
      ∙ ap outlined (sym sound.numbered.leaves_by_place)
