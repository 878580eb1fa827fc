-- The systems of a file's model: their components are leaves, their constants compound, and their numbers the model's.
use Rattle.std.proofs.Common.{◌≡◌, ℕ, zero, suc, ◌<◌, Bool, true, false, if◌then◌else◌, ◌||◌, List, [], ◌∷◌, ◌++◌, flat_map, length, unwrap_or, Option, Some, slice_get, get_or, refl, sym, ap, ◌∙◌, subst, arith}
use Rattle.std.specs.List.{Contains}
use Rattle.std.proofs.lemmas.List.Elements.{Contains-append_left, Contains-append_right}
use Rattle.std.proofs.lemmas.Option.{slice_get_within, slice_get-get_or}
use Rattle.pepa_model.specs.Expression.{Expression, Const, LeafShape, ConstShape, Definition, Compoundly}
use Rattle.pepa_model.specs.Leaves.{followers, components}
use Rattle.pepa_model.specs.PepaModel.{PepaModel, IsNamed, IsShapeOf, IsNoLeaf}
use Rattle.pepa_model.specs.declared.term.Activity.{Activity}
use Rattle.pepa_resolver.specs.Named.{Named, NamedConstant, NamedPrefix, NamedChoice, NamedCoop, NamedHide, constants_named}
use Rattle.pepa_resolver.specs.Numbers.{place_in, actions_named, IsInRange}
use Rattle.pepa_checks.specs.Structure.{has_system, IsCompoundBy}
use Rattle.pepa_checks.specs.Structure as structure
use Rattle.node_orders.specs.Graphs.{AreBelow, IsTableOf}
use Rattle.node_orders.proofs.Elements.{no_element, contains_here, contains_there}
use Rattle.pepa_resolver.proofs.NumberMeanings.{place_stands, first_there}
use Rattle.pepa_checks.specs.Outline.{is_compound, expression_in, sets_written, sets_of, shape_in, definition_in, definitions_in, Outline, outline_with}
use Rattle.pepa_checks.specs.Activities.{leaf_number}
use Rattle.pepa_checks.specs.Sequences.{HasSequentialParts, AreBodies}
use Rattle.pepa_checks.proofs.DefinitionsByNumber.{flag_true, compound_at, defined_by}
use Rattle.pepa_checks.proofs.LeafNumbers.{leaf_stands}
use Rattle.pepa_checks.proofs.LeafClosure.{IsNamedShape, IsNamedDefinition, component_leaf, defined_leaf}

-- ---- a model by its parts

abbrev pub model_from : (constants actions : List (List ℕ)) → Outline → List (List Activity) → PepaModel
model_from constants actions outline activities = record {
  constants = constants;
  actions = actions;
  bodies = outline.definitions;
  leaves = outline.leaves;
  activities = activities;
  sets = outline.sets;
  system = outline.system;
}

-- ---- numbers in expressions and shapes

no_left : (a b : Bool) → (a || b) ≡ false → a ≡ false
no_left true b h = absurd cc
no_left false b h = refl

no_right : (a b : Bool) → (a || b) ≡ false → b ≡ false
no_right true b h = absurd cc
no_right false b h = h

neither : (a b : Bool) → a ≡ false → b ≡ false → (a || b) ≡ false
neither true b h k = absurd cc
neither false b h k = k

module _ (m : PepaModel) where
  abbrev Ranges : Named → Type 0
  Ranges process = AreBelow (length m.constants) (constants_named process) × AreBelow (length m.actions) (actions_named process)

  ranges_left : (xs ys zs ws : List ℕ) (n k : ℕ) → AreBelow n (xs ++ ys) × AreBelow k (zs ++ ws) → AreBelow n xs × AreBelow k zs
  ranges_left xs ys zs ws n k h = (λ c among. h.0 c (Contains-append_left xs ys c among), λ a among. h.1 a (Contains-append_left zs ws a among))

  ranges_right : (xs ys zs ws : List ℕ) (n k : ℕ) → AreBelow n (xs ++ ys) × AreBelow k (zs ++ ws) → AreBelow n ys × AreBelow k ws
  ranges_right xs ys zs ws n k h = (λ c among. h.0 c (Contains-append_right xs ys c among), λ a among. h.1 a (Contains-append_right zs ws a among))

  named_expression : (process : Named) → has_system process ≡ false → Ranges process → IsNamed m (expression_in process)
  named_expression (NamedConstant at c) plain h = h.0 c (contains_here c [])
  named_expression (NamedPrefix at action rate next) plain h =
      (h.1 action (contains_here action (actions_named next)), named_expression next plain (h.0, λ a among. h.1 a (contains_there action (actions_named next) a among)))
  named_expression (NamedChoice left right) plain h = (
    named_expression left (no_left (has_system left) (has_system right) plain) (ranges_left (constants_named left) (constants_named right) (actions_named left) (actions_named right) (length m.constants) (length m.actions) h),
    named_expression right (no_right (has_system left) (has_system right) plain) (ranges_right (constants_named left) (constants_named right) (actions_named left) (actions_named right) (length m.constants) (length m.actions) h),
  )
  named_expression (NamedCoop left right set) plain h = absurd cc
  named_expression (NamedHide inner set) plain h = absurd cc

  module _ (compounds : List Bool) (sets : List (List ℕ)) where
    named_shape : (process : Named) → HasSequentialParts process → Ranges process → IsNamedShape m (shape_in compounds sets process)
    named_shape (NamedConstant at c) parts h = by (is_compound compounds c)
      where
        by : (b : Bool) → IsNamedShape m (if b then ConstShape c else LeafShape (Const c))
        by true = tt
        by false = h.0 c (contains_here c [])
    named_shape (NamedPrefix at action rate next) parts h = named_expression (NamedPrefix at action rate next) parts h
    named_shape (NamedChoice left right) parts h = named_expression (NamedChoice left right) (neither (has_system left) (has_system right) parts.0 parts.1) h
    named_shape (NamedCoop left right set) parts h = (
      named_shape left parts.0 (ranges_left (constants_named left) (constants_named right) (actions_named left) (set ++ actions_named right) (length m.constants) (length m.actions) h),
      named_shape right parts.1 (
        λ c among. h.0 c (Contains-append_right (constants_named left) (constants_named right) c among),
        λ a among. h.1 a (Contains-append_right (actions_named left) (set ++ actions_named right) a (Contains-append_right set (actions_named right) a among)),
      ),
    )
    named_shape (NamedHide inner set) parts h = named_shape inner parts (h.0, λ a among. h.1 a (Contains-append_left (actions_named inner) set a among))

    named_definition : (flag : Bool) (body : Named) → HasSequentialParts body → (flag ≡ false → has_system body ≡ false) → Ranges body → IsNamedDefinition m (definition_in compounds sets flag body)
    named_definition true body parts plain h = named_shape body parts h
    named_definition false body parts plain h = named_expression body (plain refl) h

    pub named_definitions : (flags : List Bool) (bodies : List Named) → AreBodies flags bodies → ((c : ℕ) (body : Named) → slice_get bodies c ≡ Some body → IsInRange (length m.constants) (length m.actions) body) → (d : Definition) → Contains (definitions_in compounds sets flags bodies) d → IsNamedDefinition m d
    named_definitions flags bodies are range d among =
        let k = among.0 in
        let by = defined_by compounds sets flags bodies k d (at_place (definitions_in compounds sets flags bodies) d among) in
        let r = range k by.body by.body_at in
        subst (IsNamedDefinition m) by.is
        (named_definition by.flag by.body (are.parts k by.body by.body_at) (λ e. are.plain k by.body by.body_at (by.flag_at ∙ ap (λ (b : Bool). Some b) e)) (r.constants_below, r.actions_below))
      where
        at_place : (ds : List Definition) (d : Definition) → (among : Contains ds d) → slice_get ds among.0 ≡ Some d
        at_place [] d among = absurd (no_element d among)
        at_place (x ∷ ds) d (zero, lt, is) = ap (λ (y : Definition). Some y) is
        at_place (x ∷ ds) d (suc k, lt, is) = at_place ds d (k, omega arith, is)

    pub named_system_shape : (system : Named) → HasSequentialParts system → IsInRange (length m.constants) (length m.actions) system → IsNamedShape m (shape_in compounds sets system)
    named_system_shape system parts r = named_shape system parts (r.constants_below, r.actions_below)

-- ---- shapes of a model

module _ (constants actions : List (List ℕ)) (activities : List (List Activity)) (compounds : List Bool) (bodies : List Named) (system : Named) (one_each : length compounds ≡ length bodies) where
  abbrev outline : Outline
  outline = outline_with (sets_of bodies system) compounds bodies system

  abbrev model : PepaModel
  model = model_from constants actions outline activities

  shape_sound : (process : Named) → ((e : Expression) → Contains (components (shape_in compounds outline.sets process)) e → Contains outline.leaves e) → AreBelow (length bodies) (constants_named process) → ((set : List ℕ) → Contains (sets_written process) set → place_in outline.sets set < length outline.sets) → IsShapeOf model (shape_in compounds outline.sets process)
  shape_sound (NamedConstant at c) leaf below found = by (is_compound compounds c) refl leaf
    where
      lt : c < length bodies
      lt = below c (contains_here c [])

      by : (b : Bool) → is_compound compounds c ≡ b → ((e : Expression) → Contains (components (if b then ConstShape c else LeafShape (Const c))) e → Contains outline.leaves e) → IsShapeOf model (if b then ConstShape c else LeafShape (Const c))
      by true e h =
          let body = get_or bodies c (NamedConstant 0 0) in
          (shape_in compounds outline.sets body, compound_at compounds outline.sets compounds bodies c body (flag_true compounds c e) (slice_get-get_or bodies c (NamedConstant 0 0) lt))
      by false e h = (leaf_number outline.leaves (Const c), leaf_stands outline.leaves (Const c) (h (Const c) (contains_here (Const c) [])))
  shape_sound (NamedPrefix at action rate next) leaf below found =
      let e = expression_in (NamedPrefix at action rate next) in
      (leaf_number outline.leaves e, leaf_stands outline.leaves e (leaf e (contains_here e (followers e))))
  shape_sound (NamedChoice left right) leaf below found =
      let e = expression_in (NamedChoice left right) in
      (leaf_number outline.leaves e, leaf_stands outline.leaves e (leaf e (contains_here e (followers e))))
  shape_sound (NamedCoop left right set) leaf below found =
      let l = components (shape_in compounds outline.sets left) in
      let r = components (shape_in compounds outline.sets right) in (
        shape_sound left (λ e h. leaf e (Contains-append_left l r e h)) (λ c h. below c (Contains-append_left (constants_named left) (constants_named right) c h)) (λ s h. found s (Contains-append_left (sets_written left) (set ∷ sets_written right) s h)),
        shape_sound right (λ e h. leaf e (Contains-append_right l r e h)) (λ c h. below c (Contains-append_right (constants_named left) (constants_named right) c h)) (λ s h. found s (Contains-append_right (sets_written left) (set ∷ sets_written right) s (contains_there set (sets_written right) s h))),
        found set (Contains-append_right (sets_written left) (set ∷ sets_written right) set (contains_here set (sets_written right))),
      )
  shape_sound (NamedHide inner set) leaf below found = (
    shape_sound inner leaf below (λ s h. found s (Contains-append_left (sets_written inner) (set ∷ []) s h)),
    found set (Contains-append_right (sets_written inner) (set ∷ []) set (contains_here set [])),
  )

  set_within : (set : List ℕ) → Contains (flat_map sets_written bodies ++ sets_written system) set → place_in outline.sets set < length outline.sets
  set_within set among =
      let written = flat_map sets_written bodies ++ sets_written system in
      slice_get_within outline.sets (place_in outline.sets set) set (place_stands set outline.sets (first_there set written among))

  pub system_sound : AreBelow (length bodies) (constants_named system) → IsShapeOf model outline.system
  system_sound below =
      shape_sound system (λ e h. component_leaf outline.definitions outline.system e h) below
      (λ set h. set_within set (Contains-append_right (flat_map sets_written bodies) (sets_written system) set h))

  pub body_sound : (c : ℕ) (body : Named) → slice_get compounds c ≡ Some true → slice_get bodies c ≡ Some body → AreBelow (length bodies) (constants_named body) → IsShapeOf model (shape_in compounds outline.sets body)
  body_sound c body flag is below =
      shape_sound body
      (λ e h. defined_leaf outline.definitions outline.system (Compoundly (shape_in compounds outline.sets body)) c e (compound_at compounds outline.sets compounds bodies c body flag is) h) below
      (λ set h. set_within set (Contains-append_left (flat_map sets_written bodies) (sets_written system) set (among bodies c is set h)))
    where
      among : (bs : List Named) (c : ℕ) → slice_get bs c ≡ Some body → (set : List ℕ) → Contains (sets_written body) set → Contains (flat_map sets_written bs) set
      among [] c is set h = absurd cc
      among (b ∷ bs) zero is set h =
          let same : b ≡ body = cc in
          Contains-append_left (sets_written b) (flat_map sets_written bs) set (subst (λ (x : Named). Contains (sets_written x) set) (sym same) h)
      among (b ∷ bs) (suc c) is set h = Contains-append_right (sets_written b) (flat_map sets_written bs) set (among bs c is set h)

  -- ---- a compound constant's system is no leaf

  pub no_leaf : IsTableOf (structure.IsCompoundConstant bodies) compounds → (c : ℕ) (body : Named) → slice_get compounds c ≡ Some true → slice_get bodies c ≡ Some body → HasSequentialParts body → IsNoLeaf (shape_in compounds outline.sets body)
  no_leaf table c body flag is parts = by body is parts (table.sound c flag)
    where
      by : (body : Named) → slice_get bodies c ≡ Some body → HasSequentialParts body → structure.IsCompoundConstant bodies c → IsNoLeaf (shape_in compounds outline.sets body)
      by (NamedConstant at d) is parts (zero, h) e same = let k : ◌≡◌ {A = Named} h.0 (NamedConstant at d) = cc in let f : false ≡ true = sym (ap has_system k) ∙ h.2 in cc
      by (NamedConstant at d) is parts (suc n, h) e same =
          let next : h.1 ≡ d = cc in
          let marked : slice_get compounds d ≡ Some true = table.complete d (n, subst (IsCompoundBy bodies n) next h.3) in
          let compound : is_compound compounds d ≡ true = ap (λ (o : Option Bool). unwrap_or o false) marked in
          other d (is_compound compounds d) compound same
        where
          other : (d : ℕ) (b : Bool) → b ≡ true → (if b then ConstShape d else LeafShape (Const d)) ≡ LeafShape e → ⊥
          other d true h k = cc
          other d false h k = cc
      by (NamedPrefix at action rate next) is parts (zero, h) e same = let k : ◌≡◌ {A = Named} h.0 (NamedPrefix at action rate next) = cc in let f : false ≡ true = sym parts ∙ sym (ap has_system k) ∙ h.2 in cc
      by (NamedPrefix at action rate next) is parts (suc n, h) e same = cc
      by (NamedChoice left right) is parts (zero, h) e same = let k : ◌≡◌ {A = Named} h.0 (NamedChoice left right) = cc in let f : false ≡ true = sym (neither (has_system left) (has_system right) parts.0 parts.1) ∙ sym (ap has_system k) ∙ h.2 in cc
      by (NamedChoice left right) is parts (suc n, h) e same = cc
      by (NamedCoop left right set) is parts h e same = cc
      by (NamedHide inner set) is parts h e same = cc
