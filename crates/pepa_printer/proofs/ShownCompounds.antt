-- Of the processes that are a model's parts, those that stand for systems are compound.
use Rattle.std.proofs.Common.{◌≡◌, ℕ, zero, suc, Bool, true, false, List, [], ◌∷◌, map, length, option_map, unwrap_or, Option, Some, slice_get, refl, sym, ap, ◌∙◌, subst}
use Rattle.std.proofs.lemmas.Bool.{false≢true}
use Rattle.std.proofs.lemmas.List.{length-map}
use Rattle.std.proofs.lemmas.Option.{slice_get-map}
use Rattle.pepa_model.specs.Expression.{Expression, Const, Shape, ConstShape, CoopShape, HideShape, Definition, Sequentially, Compoundly, Defines}
use Rattle.pepa_model.specs.Expanded.{Expanded, LeafTree, ConstTree, CoopTree, HideTree, Expands}
use Rattle.pepa_model.specs.PepaModel.{PepaModel, IsModel}
use Rattle.pepa_resolver.specs.Named.{Named, NamedConstant, NamedCoop, NamedHide}
use Rattle.pepa_checks.specs.Structure.{has_system, IsCompoundConstant, IsCompoundBy}
use Rattle.node_orders.specs.Graphs.{IsTableOf}
use Rattle.pepa_checks.specs.Outline.{is_compound}
use Rattle.pepa_printer.proofs.Shown.{ShowsShape, ShowsDefinition, AreShown}
use Rattle.pepa_printer.proofs.Zips.{zip_at, zip_back, zip_length}
use Rattle.pepa_printer.proofs.ShownExpressions.{shown_plain, shown_constant}
use Rattle.pepa_printer.proofs.OpenedLeaves.{body_opens, opened_not_compound}

-- ---- flags

-- whether it stands for a system
abbrev pub stands_for_system : Definition → Bool
stands_for_system (Sequentially e) = false
stands_for_system (Compoundly shape) = true

abbrev pub flags_of : List Definition → List Bool
flags_of definitions = map stands_for_system definitions

pub flag_at : (definitions : List Definition) (c : ℕ) (d : Definition) → slice_get definitions c ≡ Some d → slice_get (flags_of definitions) c ≡ Some (stands_for_system d)
flag_at definitions c d at = slice_get-map stands_for_system definitions c ∙ ap (λ (o : Option Definition). option_map stands_for_system o) at

pub flag_is : (definitions : List Definition) (c : ℕ) (d : Definition) → slice_get definitions c ≡ Some d → is_compound (flags_of definitions) c ≡ stands_for_system d
flag_is definitions c d at = ap (λ (o : Option Bool). unwrap_or o false) (flag_at definitions c d at)

pub flag_back : (definitions : List Definition) (c : ℕ) → slice_get (flags_of definitions) c ≡ Some true → (shape : Shape) × (slice_get definitions c ≡ Some (Compoundly shape))
flag_back [] c e = absurd cc
flag_back (Sequentially e ∷ definitions) zero h = absurd cc
flag_back (Compoundly shape ∷ definitions) zero h = (shape, refl)
flag_back (d ∷ definitions) (suc c) h = flag_back definitions c h

-- ---- what shows a system

pub shown_const : (m : PepaModel) (c : ℕ) (node : Named) → ShowsShape m (ConstShape c) node → (at : ℕ) × (node ≡ NamedConstant at c)
shown_const m c (NamedConstant at d) h = (at, ap (λ (n : ℕ). NamedConstant at n) h)
shown_const m c node h = absurd h

shown_coop : (m : PepaModel) (x y : Shape) (k : ℕ) (node : Named) → ShowsShape m (CoopShape x y k) node → has_system node ≡ true
shown_coop m x y k (NamedCoop left right set) h = refl
shown_coop m x y k node h = absurd h

shown_hide : (m : PepaModel) (x : Shape) (k : ℕ) (node : Named) → ShowsShape m (HideShape x k) node → has_system node ≡ true
shown_hide m x k (NamedHide inner set) h = refl
shown_hide m x k node h = absurd h

-- ---- the table

module _ (m : PepaModel) (sound : IsModel m) (bodies : List Named) (system : Named) (shown : AreShown m bodies system) where
  pub node_at : (c : ℕ) (d : Definition) → slice_get m.bodies c ≡ Some d → (node : Named) × (slice_get bodies c ≡ Some node) × ShowsDefinition m d node
  node_at c d at = zip_at (ShowsDefinition m) m.bodies bodies c d shown.bodies_are at

  pub definition_at : (c : ℕ) (node : Named) → slice_get bodies c ≡ Some node → (d : Definition) × (slice_get m.bodies c ≡ Some d) × ShowsDefinition m d node
  definition_at c node at = zip_back (ShowsDefinition m) m.bodies bodies c node shown.bodies_are at

  -- what stands for a system is compound, by recursion on the tree
  compound_by : (tree : Expanded) (shape : Shape) (c : ℕ) → slice_get m.bodies c ≡ Some (Compoundly shape) → Expands m.bodies shape tree → IsCompoundConstant bodies c
  compound_by (LeafTree e) shape c at is = absurd ((sound.compounds c shape at).no_leaf e is)
  compound_by (ConstTree d p) shape c at (is, (body, body_at, inner)) =
      let (node, there, shows) = node_at c (Compoundly shape) at in
      let (k, node_is) = shown_const m d node (subst (λ (s : Shape). ShowsShape m s node) is shows) in
      let (n, by) = compound_by p body d body_at inner in
      (suc n, (k, d, there ∙ ap (λ (x : Named). Some x) node_is, by))
  compound_by (CoopTree p q k) shape c at (x, y, is, left, right) =
      let (node, there, shows) = node_at c (Compoundly shape) at in
      (zero, (node, there, shown_coop m x y k node (subst (λ (s : Shape). ShowsShape m s node) is shows)))
  compound_by (HideTree p k) shape c at (x, is, inner) =
      let (node, there, shows) = node_at c (Compoundly shape) at in
      (zero, (node, there, shown_hide m x k node (subst (λ (s : Shape). ShowsShape m s node) is shows)))

  pub shape_compound : (c : ℕ) (shape : Shape) → slice_get m.bodies c ≡ Some (Compoundly shape) → IsCompoundConstant bodies c
  shape_compound c shape at =
      let expanded = (sound.compounds c shape at).expanded in
      compound_by expanded.tree shape c at expanded.expands

  -- a sequential constant whose body is another constant alone: that one is sequential too
  alias_sequential : (c next : ℕ) (e : Expression) (shape : Shape) → Defines m.bodies c e → e ≡ Const next → slice_get m.bodies next ≡ Some (Compoundly shape) → ⊥
  alias_sequential c next e shape at is compound =
      opened_not_compound m.bodies next shape (body_opens m sound c (Const next) (subst (λ (x : Expression). Defines m.bodies c x) is at)) compound

  -- what is compound stands for a system
  pub compound_shape : (n c : ℕ) → IsCompoundBy bodies n c → (shape : Shape) × (slice_get m.bodies c ≡ Some (Compoundly shape))
  compound_shape zero c (node, there, has) =
      let (d, at, shows) = definition_at c node there in
      by d at shows
    where
      by : (d : Definition) → slice_get m.bodies c ≡ Some d → ShowsDefinition m d node → (shape : Shape) × (slice_get m.bodies c ≡ Some (Compoundly shape))
      by (Sequentially e) at shows = absurd (false≢true (sym (shown_plain e node shows) ∙ has))
      by (Compoundly shape) at shows = (shape, at)
  compound_shape (suc n) c (k, next, there, more) =
      let (d, at, shows) = definition_at c (NamedConstant k next) there in
      by d at shows (compound_shape n next more)
    where
      by : (d : Definition) → slice_get m.bodies c ≡ Some d → ShowsDefinition m d (NamedConstant k next) → (s : Shape) × (slice_get m.bodies next ≡ Some (Compoundly s))
          → (shape : Shape) × (slice_get m.bodies c ≡ Some (Compoundly shape))
      by (Sequentially e) at shows (s, s_at) = absurd (alias_sequential c next e s at (shown_constant e k next shows) s_at)
      by (Compoundly shape) at shows rest = (shape, at)

  pub flags_each : length (flags_of m.bodies) ≡ length bodies
  flags_each = length-map m.bodies stands_for_system ∙ sym (zip_length (ShowsDefinition m) m.bodies bodies shown.bodies_are)

  pub flags_table : IsTableOf (IsCompoundConstant bodies) (flags_of m.bodies)
  flags_table = record {
    sound = λ d marked. let (shape, at) = flag_back m.bodies d marked in shape_compound d shape at;
    complete = λ d (n, by). let (shape, at) = compound_shape n d by in flag_at m.bodies d (Compoundly shape) at;
  }
