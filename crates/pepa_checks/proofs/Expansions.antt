-- The system of an outline, and each compound constant's, expands into a tree, not too high.
use Rattle.std.proofs.Common.{◌≡◌, ℕ, ◌+◌, ◌*◌, ◌^◌, ◌<◌, ◌≤◌, Bool, true, false, if◌then◌else◌, List, [], ◌∷◌, length, get_or, Some, slice_get, refl, subst, arith}
use Rattle.std.specs.List.{Contains}
use Rattle.std.proofs.lemmas.Option.{slice_get_within, slice_get-get_or}
use Rattle.std.proofs.lemmas.List.Elements.{Contains-append_left, Contains-append_right, Contains-push}
use Rattle.pepa_model.specs.Expression.{Const, Shape, LeafShape, ConstShape, Definition, IsCompound}
use Rattle.pepa_model.specs.Expanded.{Expanded, LeafTree, ConstTree, CoopTree, HideTree, Expands, height_of}
use Rattle.pepa_resolver.specs.Named.{Named, NamedConstant, NamedPrefix, NamedChoice, NamedCoop, NamedHide, constants_named}
use Rattle.pepa_checks.specs.Structure.{CompoundEdge}
use Rattle.node_orders.specs.Graphs.{IsOrder}
use Rattle.pepa_resolver.specs.Numbers.{place_in}
use Rattle.node_orders.proofs.Elements.{contains_here}
use Rattle.pepa_checks.specs.Outline.{is_compound, expression_in, shape_in, definitions_in, outline_with}
use Rattle.pepa_checks.specs.Heights.{height_in, most_height}
use Rattle.pepa_checks.specs.Built.{IsBuilt}
use Rattle.pepa_checks.proofs.DefinitionsByNumber.{compound_at, compound_by, flag_true}
use Rattle.pepa_checks.proofs.PlainProcesses.{body_among}
use Rattle.node_orders.proofs.AlongOrders.{along_order}
use Rattle.pepa_checks.proofs.Openings.{step, most_steps}

-- the system expands into a tree that is no higher
pub record ExpandsWithin (definitions : List Definition) (most : ℕ) (shape : Shape) : Type 0 where
  pub tree : Expanded
  pub expands : Expands definitions shape tree
  pub low : height_of tree ≤ most

pub expands_higher : (definitions : List Definition) (k m : ℕ) (shape : Shape) → k ≤ m → ExpandsWithin definitions k shape → ExpandsWithin definitions m shape
expands_higher definitions k m shape le t = record { tree = t.tree; expands = t.expands; low = omega (arith, t.low) }

module _ (definitions : List Definition) (compounds : List Bool) (sets : List (List ℕ)) where
  -- the compound ones of these constants expand
  abbrev EachExpands : ℕ → List ℕ → Type 0
  EachExpands k constants = (d : ℕ) → Contains constants d → slice_get compounds d ≡ Some true → ExpandsWithin definitions k (ConstShape d)

  constant_expands : (k c : ℕ) (b : Bool) → is_compound compounds c ≡ b → EachExpands k (c ∷ []) → ExpandsWithin definitions (k + 1) (if b then ConstShape c else LeafShape (Const c))
  constant_expands k c true e each = expands_higher definitions k (k + 1) (ConstShape c) (omega arith) (each c (contains_here c []) (flag_true compounds c e))
  constant_expands k c false e each = record { tree = LeafTree (Const c); expands = refl; low = omega arith }

  shape_expands : (k : ℕ) (process : Named) → EachExpands k (constants_named process) → ExpandsWithin definitions (k + height_in process) (shape_in compounds sets process)
  shape_expands k (NamedConstant at c) each = constant_expands k c (is_compound compounds c) refl each
  shape_expands k (NamedPrefix at action rate next) each = record { tree = LeafTree (expression_in (NamedPrefix at action rate next)); expands = refl; low = omega arith }
  shape_expands k (NamedChoice left right) each = record { tree = LeafTree (expression_in (NamedChoice left right)); expands = refl; low = omega arith }
  shape_expands k (NamedCoop left right set) each =
      let p = shape_expands k left (λ d h. each d (Contains-append_left (constants_named left) (constants_named right) d h)) in
      let q = shape_expands k right (λ d h. each d (Contains-append_right (constants_named left) (constants_named right) d h)) in
      record {
        tree = CoopTree p.tree q.tree (place_in sets set);
        expands = (shape_in compounds sets left, shape_in compounds sets right, refl, p.expands, q.expands);
        low = omega (arith, p.low, q.low);
      }
  shape_expands k (NamedHide inner set) each =
      let p = shape_expands k inner each in
      record { tree = HideTree p.tree (place_in sets set); expands = (shape_in compounds sets inner, refl, p.expands); low = omega (arith, p.low) }

module _ (sets : List (List ℕ)) (compounds : List Bool) (bodies : List Named) (system : Named) (order : List ℕ) (built : IsBuilt compounds bodies system)
    (ordered : IsOrder (CompoundEdge bodies) (length bodies) order) where
  abbrev definitions : List Definition
  definitions = definitions_in compounds sets compounds bodies

  -- a compound constant expands
  abbrev Holds : ℕ → ℕ → Type 0
  Holds k c = slice_get compounds c ≡ Some true → ExpandsWithin definitions k (ConstShape c)

  next : (k c : ℕ) → ((d : ℕ) → CompoundEdge bodies c d → Holds k d) → Holds (k + step) c
  next k c each set =
      let count : length compounds ≡ length bodies = built.one_each in
      let inside : c < length compounds = slice_get_within compounds c true set in
      let body = get_or bodies c (NamedConstant 0 0) in
      let at : slice_get bodies c ≡ Some body = slice_get-get_or bodies c (NamedConstant 0 0) (omega arith) in
      let low : height_in body ≤ most_height = built.low body (body_among compounds bodies system built c body at) in
      let inner = shape_expands definitions compounds sets k body (λ d h set_too. each d (built.table.sound c set, (body, at, h)) set_too) in
      record {
        tree = ConstTree c inner.tree;
        expands = (refl, (shape_in compounds sets body, compound_at compounds sets compounds bodies c body set at, inner.expands));
        low = omega (arith, inner.low);
      }

  pub compound_expands : (c : ℕ) → slice_get compounds c ≡ Some true → ExpandsWithin (definitions_in compounds sets compounds bodies) most_steps (ConstShape c)
  compound_expands c set =
      let count : length compounds ≡ length bodies = built.one_each in
      let few : length bodies ≤ 1024 = built.few in
      let inside : c < length compounds = slice_get_within compounds c true set in
      expands_higher definitions (length bodies * step) most_steps (ConstShape c) (omega arith)
      (along_order step (CompoundEdge bodies) (length bodies) order ordered Holds
      (λ k m d le holds set_too. expands_higher definitions k m (ConstShape d) le (holds set_too)) next c (omega arith) set)

  -- a process of the file, as a system, expands
  pub process_expands : (process : Named) → height_in process ≤ most_height → (tree : Expanded) × Expands (definitions_in compounds sets compounds bodies) (shape_in compounds sets process) tree × (height_of tree ≤ 2 ^ 21)
  process_expands process low =
      let t = shape_expands definitions compounds sets most_steps process (λ d h set. compound_expands d set) in
      (t.tree, t.expands, omega (arith, t.low))

  -- the system expands, not too high
  pub system_expands : (tree : Expanded) × Expands (outline_with sets compounds bodies system).definitions (outline_with sets compounds bodies system).system tree × (height_of tree ≤ 2 ^ 21)
  system_expands = process_expands system (built.low system (Contains-push bodies system))

  -- so does what each compound constant stands for
  pub body_expands : (c : ℕ) (shape : Shape) → IsCompound (outline_with sets compounds bodies system).definitions c shape → (tree : Expanded) × Expands (outline_with sets compounds bodies system).definitions shape tree × (height_of tree ≤ 2 ^ 21)
  body_expands c shape is =
      let by = compound_by compounds sets compounds bodies c shape is in
      subst (λ (s : Shape). (tree : Expanded) × Expands definitions s tree × (height_of tree ≤ 2 ^ 21)) by.is
      (process_expands by.body (built.low by.body (body_among compounds bodies system built c by.body by.body_at)))
