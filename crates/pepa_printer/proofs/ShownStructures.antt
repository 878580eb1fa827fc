-- Processes that are the parts of a model have no fault of their structure.
use Rattle.std.proofs.Common.{◌≡◌, ℕ, zero, suc, ◌<◌, ◌≤◌, inl, inr, List, [], ◌∷◌, ◌++◌, Option, Some, None, slice_get, refl, sym, ap, ◌∙◌, subst, arith}
use Rattle.std.specs.List.{Contains}
use Rattle.std.proofs.lemmas.Bool.{false≢true}
use Rattle.std.proofs.lemmas.List.Elements.{Contains-push_cases}
use Rattle.pepa_model.specs.Expression.{Expression, Const, Shape, Definition, Sequentially, Compoundly}
use Rattle.pepa_model.specs.Opened.{Opened, Opens, height}
use Rattle.pepa_model.specs.Expanded.{Expanded, Expands, height_of}
use Rattle.pepa_model.specs.PepaModel.{PepaModel, IsModel}
use Rattle.pepa_resolver.specs.Named.{Named, constants_named, sequential_parts}
use Rattle.pepa_checks.specs.Structure.{IsSystem, NotSequentialAt, CompoundEdge, UnguardedEdge}
use Rattle.node_orders.specs.Cycles.{ReachesIn, HasNoCycle}
use Rattle.pepa_checks.specs.StructureAnswers.{IsStructured}
use Rattle.pepa_resolver.specs.Faults.{HasNone}
use Rattle.pepa_checks.proofs.Bodies.{same_body}
use Rattle.pepa_checks.proofs.OneTree.{one_opening, one_expansion}
use Rattle.pepa_printer.proofs.Shown.{Shows, ShowsDefinition, AreShown}
use Rattle.pepa_printer.proofs.ShownExpressions.{shown_plain, shown_constant}
use Rattle.pepa_printer.proofs.OpenedLeaves.{HasOpening, place_at, component_opens, defined_opens, body_opens, opened_not_compound}
use Rattle.pepa_printer.proofs.ShownCompounds.{node_at, definition_at, shape_compound, compound_shape}
use Rattle.pepa_printer.proofs.ShownParts.{IsOpenPart, expression_parts, shape_parts, shape_constants, unguarded_lower}

-- ---- ranks that fall leave no way back

module _ (Edge : ℕ → ℕ → Type 0) (rank : ℕ → ℕ) (falls : (c d : ℕ) → Edge c d → rank d < rank c) where
  leads_down : (n c d : ℕ) → ReachesIn Edge n c d → rank d ≤ rank c
  leads_down zero c d same = omega (arith, ap rank same)
  leads_down (suc n) c d way = omega (arith, falls c way.0 way.1, leads_down n way.0 d way.2)

  falling : HasNoCycle Edge
  falling c back = absurd (omega (arith, falls c (back.1).0 (back.1).1, leads_down back.0 (back.1).0 c (back.1).2))

module _ (m : PepaModel) (sound : IsModel m) where
  -- ---- the height of the tree of a compound constant's system

  abbrev system_rank_by : (c : ℕ) (o : Option Definition) → slice_get m.bodies c ≡ o → ℕ
  system_rank_by c None at = zero
  system_rank_by c (Some (Sequentially e)) at = zero
  system_rank_by c (Some (Compoundly shape)) at = suc (height_of (sound.compounds c shape at).expanded.tree)

  abbrev system_rank : ℕ → ℕ
  system_rank c = system_rank_by c (slice_get m.bodies c) refl

  system_rank_is : (c : ℕ) (shape : Shape) (tree : Expanded) (o : Option Definition) (at : slice_get m.bodies c ≡ o) → o ≡ Some (Compoundly shape) → Expands m.bodies shape tree
      → system_rank_by c o at ≡ suc (height_of tree)
  system_rank_is c shape tree None at is expands = absurd cc
  system_rank_is c shape tree (Some (Sequentially e)) at is expands = absurd cc
  system_rank_is c shape tree (Some (Compoundly s)) at is expands =
      let same : shape ≡ s = cc in
      let own = (sound.compounds c s at).expanded in
      ap (λ (t : Expanded). suc (height_of t)) (one_expansion m.bodies s own.tree tree own.expands (subst (λ (x : Shape). Expands m.bodies x tree) same expands))

  system_rank_low : (c : ℕ) (o : Option Definition) (at : slice_get m.bodies c ≡ o) → HasOpening m.bodies (Const c) → system_rank_by c o at ≡ zero
  system_rank_low c None at opening = refl
  system_rank_low c (Some (Sequentially e)) at opening = refl
  system_rank_low c (Some (Compoundly shape)) at opening = absurd (opened_not_compound m.bodies c shape opening at)

  -- ---- the height of the tree of a sequential constant's body

  abbrev body_rank_by : (c : ℕ) (o : Option Definition) → slice_get m.bodies c ≡ o → ℕ
  body_rank_by c None at = zero
  body_rank_by c (Some (Sequentially e)) at = suc (height (body_opens m sound c e at).0)
  body_rank_by c (Some (Compoundly shape)) at = zero

  abbrev body_rank : ℕ → ℕ
  body_rank c = body_rank_by c (slice_get m.bodies c) refl

  body_rank_is : (c : ℕ) (e : Expression) (tree : Opened) (o : Option Definition) (at : slice_get m.bodies c ≡ o) → o ≡ Some (Sequentially e) → Opens m.bodies e tree
      → body_rank_by c o at ≡ suc (height tree)
  body_rank_is c e tree None at is opens = absurd cc
  body_rank_is c e tree (Some (Compoundly shape)) at is opens = absurd cc
  body_rank_is c e tree (Some (Sequentially x)) at is opens =
      let same : e ≡ x = cc in
      let own = body_opens m sound c x at in
      ap (λ (t : Opened). suc (height t)) (one_opening m.bodies x own.0 tree own.1 (subst (λ (y : Expression). Opens m.bodies y tree) same opens))

  module _ (bodies : List Named) (system : Named) (shown : AreShown m bodies system) where
    -- ---- no part that has to be sequential isn't

    definition_parts : (c : ℕ) (d : Definition) (node : Named) → slice_get m.bodies c ≡ Some d → ShowsDefinition m d node → (part : Named) → Contains (sequential_parts node) part
        → IsOpenPart m.bodies part
    definition_parts c (Sequentially e) node at shows part among =
        expression_parts m.bodies e node shows (body_opens m sound c e at) (λ f h. defined_opens m sound (Sequentially e) c f at h) part among
    definition_parts c (Compoundly shape) node at shows part among =
        shape_parts m.bodies m shape node shows (λ f h. defined_opens m sound (Compoundly shape) c f at h) part among

    open_parts : (process : Named) → Contains (bodies ++ system ∷ []) process → (part : Named) → Contains (sequential_parts process) part → IsOpenPart m.bodies part
    open_parts process among part inside = elim (Contains-push_cases bodies system process among) [
      | inl body ↦
          let (c, there) = place_at bodies process body in
          let (d, at, shows) = definition_at m sound bodies system shown c process there in
          definition_parts c d process at shows part inside
      | inr is ↦
          let within : Contains (sequential_parts system) part = subst (λ (p : Named). Contains (sequential_parts p) part) (sym is) inside in
          shape_parts m.bodies m m.system system shown.system_is (λ f h. component_opens m sound f h) part within
    ]

    part_sequential : (part : Named) → IsOpenPart m.bodies part → ¬ IsSystem bodies part
    part_sequential part open_part (inl has) = false≢true (sym (shown_plain open_part.e part open_part.shows) ∙ has)
    part_sequential part open_part (inr (at, c, is, (n, compound))) =
        let e_is : open_part.e ≡ Const c = shown_constant open_part.e at c (subst (λ (p : Named). Shows open_part.e p) is open_part.shows) in
        let (shape, stands) = compound_shape m sound bodies system shown n c compound in
        opened_not_compound m.bodies c shape (subst (λ (e : Expression). HasOpening m.bodies e) e_is open_part.opening) stands

    sequential : HasNone (NotSequentialAt bodies system)
    sequential i (process, among, (part, inside, bad, first)) = part_sequential part (open_parts process among part inside) bad

    -- ---- no compound constant reaches itself

    compound_falls : (c d : ℕ) → CompoundEdge bodies c d → system_rank d < system_rank c
    compound_falls c d ((n, compound), (body, there, among)) =
        let (shape, stands) = compound_shape m sound bodies system shown n c compound in
        let own = (sound.compounds c shape stands).expanded in
        let rank_c : system_rank c ≡ suc (height_of own.tree) = system_rank_is c shape own.tree (slice_get m.bodies c) refl stands own.expands in
        let (node, node_there, shows) = node_at m sound bodies system shown c (Compoundly shape) stands in
        let same : node ≡ body = same_body bodies c node body node_there there in
        let inside : Contains (constants_named node) d = subst (λ (b : Named). Contains (constants_named b) d) (sym same) among in
        elim (shape_constants m.bodies m shape node shows (λ f h. defined_opens m sound (Compoundly shape) c f stands h) own.tree own.expands d inside) [
          | inl opening ↦ let rank_d : system_rank d ≡ zero = system_rank_low d (slice_get m.bodies d) refl opening in omega arith
          | inr s ↦
              let low : height_of s.tree < height_of own.tree = s.lower in
              let rank_d : system_rank d ≡ suc (height_of s.tree) = system_rank_is d s.shape s.tree (slice_get m.bodies d) refl s.at s.expands in
              omega arith
        ]

    -- ---- no sequential constant reaches itself behind no activity

    unguarded_falls : (c d : ℕ) → UnguardedEdge bodies c d → body_rank d < body_rank c
    unguarded_falls c d (apart, (body, there, among)) =
        let (definition, stands, shows) = definition_at m sound bodies system shown c body there in
        by definition stands shows
      where
        by : (definition : Definition) → slice_get m.bodies c ≡ Some definition → ShowsDefinition m definition body → body_rank d < body_rank c
        by (Compoundly shape) stands shows = absurd (apart (shape_compound m sound bodies system shown c shape stands))
        by (Sequentially e) stands shows =
            let (tree, opens) = body_opens m sound c e stands in
            let rank_c : body_rank c ≡ suc (height tree) = body_rank_is c e tree (slice_get m.bodies c) refl stands opens in
            let s = unguarded_lower m.bodies e body shows tree opens d among in
            let low : height s.tree < height tree = s.lower in
            let rank_d : body_rank d ≡ suc (height s.tree) = body_rank_is d s.body s.tree (slice_get m.bodies d) refl s.defines s.opens in
            omega arith

    pub shown_structured : IsStructured bodies system
    shown_structured = record {
      sequential = sequential;
      compound = falling (CompoundEdge bodies) system_rank compound_falls;
      guarded = falling (UnguardedEdge bodies) body_rank unguarded_falls;
    }
