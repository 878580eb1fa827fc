-- The first state of a model, and the systems that it is expanded from.
use Rattle.std.proofs.Common.{◌≡◌, ℕ, ◌-◌, ◌^◌, ◌≤◌, List, [], Some, slice_get, Result, Ok, Err, IfOk, refl, sym, ap, subst, arith}
use Rattle.std.proofs.lemmas.Option.{slice_get-get_or}
use Rattle.pepa_model.specs.Expression.{Expression, Shape, LeafShape, ConstShape, CoopShape, HideShape, Definition, IsCompound}
use Rattle.pepa_model.specs.Expanded.{Expanded, LeafTree, ConstTree, CoopTree, HideTree, Expands, height_of}
use Rattle.pepa_model.specs.PepaModel.{PepaModel, IsModel, IsShapeOf}
use Rattle.pepa_model.specs.Terms.{TermNode, LeafNode, CoopNode, HideNode, term_of, IsTermOf}
use Rattle.pepa_model.specs.declared.term.Term.{Term}
use Rattle.pepa_steps.specs.States.{NodeStandsFor}
use Rattle.pepa_steps.proofs.StateOpens.{node_of_model}
use Rattle.probe_attach.specs.FirstStates.{expanded_state, IsFirstTerm, CanExpand}

-- ---- what a system's tree is

pub record ConstTreeOf (definitions : List Definition) (c : ℕ) (tree : Expanded) : Type 0 where
  pub inner : Expanded
  pub body : Shape
  pub compound : IsCompound definitions c body
  pub expands : Expands definitions body inner
  pub whole : tree ≡ ConstTree c inner

pub record CoopTreeOf (definitions : List Definition) (x y : Shape) (set : ℕ) (tree : Expanded) : Type 0 where
  pub left : Expanded
  pub right : Expanded
  pub expands_left : Expands definitions x left
  pub expands_right : Expands definitions y right
  pub whole : tree ≡ CoopTree left right set

pub record HideTreeOf (definitions : List Definition) (x : Shape) (set : ℕ) (tree : Expanded) : Type 0 where
  pub inner : Expanded
  pub expands : Expands definitions x inner
  pub whole : tree ≡ HideTree inner set

module _ (definitions : List Definition) where
  pub leaf_tree : (shape : Shape) (e : Expression) (tree : Expanded) → shape ≡ LeafShape e → Expands definitions shape tree → tree ≡ LeafTree e
  leaf_tree shape e (LeafTree f) is h = let same : f ≡ e = cc in ap LeafTree same
  leaf_tree shape e (ConstTree c p) is (h, more) = absurd cc
  leaf_tree shape e (CoopTree p q set) is (x, y, h, left, right) = absurd cc
  leaf_tree shape e (HideTree p set) is (x, h, inner) = absurd cc

  pub const_tree : (shape : Shape) (c : ℕ) (tree : Expanded) → shape ≡ ConstShape c → Expands definitions shape tree → ConstTreeOf definitions c tree
  const_tree shape c (LeafTree f) is h = absurd cc
  const_tree shape c (ConstTree d p) is (h, (body, compound, expands)) =
      let same : d ≡ c = cc in
      record { inner = p; body = body; compound = subst (λ (n : ℕ). IsCompound definitions n body) same compound; expands = expands; whole = ap (λ (n : ℕ). ConstTree n p) same }
  const_tree shape c (CoopTree p q set) is (x, y, h, left, right) = absurd cc
  const_tree shape c (HideTree p set) is (x, h, inner) = absurd cc

  pub coop_tree : (shape x y : Shape) (set : ℕ) (tree : Expanded) → shape ≡ CoopShape x y set → Expands definitions shape tree → CoopTreeOf definitions x y set tree
  coop_tree shape x y set (LeafTree f) is h = absurd cc
  coop_tree shape x y set (ConstTree c p) is (h, more) = absurd cc
  coop_tree shape x y set (CoopTree p q other) is (v, w, h, left, right) =
      let same_x : v ≡ x = cc in
      let same_y : w ≡ y = cc in
      let same_set : other ≡ set = cc in
      record {
        left = p;
        right = q;
        expands_left = subst (λ (s : Shape). Expands definitions s p) same_x left;
        expands_right = subst (λ (s : Shape). Expands definitions s q) same_y right;
        whole = ap (CoopTree p q) same_set;
      }
  coop_tree shape x y set (HideTree p other) is (v, h, inner) = absurd cc

  pub hide_tree : (shape x : Shape) (set : ℕ) (tree : Expanded) → shape ≡ HideShape x set → Expands definitions shape tree → HideTreeOf definitions x set tree
  hide_tree shape x set (LeafTree f) is h = absurd cc
  hide_tree shape x set (ConstTree c p) is (h, more) = absurd cc
  hide_tree shape x set (CoopTree p q other) is (v, w, h, left, right) = absurd cc
  hide_tree shape x set (HideTree p other) is (v, h, inner) =
      let same_x : v ≡ x = cc in
      let same_set : other ≡ set = cc in
      record { inner = p; expands = subst (λ (s : Shape). Expands definitions s p) same_x inner; whole = ap (HideTree p) same_set }

-- ---- what can be expanded

module _ (m : PepaModel) (sound : IsModel m) where
  pub record ConstCanExpand (c : ℕ) (body : Shape) (depth : ℕ) : Type 0 where
    pub positive : 1 ≤ depth
    pub inner : CanExpand m body (depth - 1)

  pub const_compound : (shape : Shape) (c depth : ℕ) → shape ≡ ConstShape c → CanExpand m shape depth → (body : Shape) × IsCompound m.bodies c body
  const_compound shape c depth is can = let t = const_tree m.bodies shape c can.tree is can.expands in (t.body, t.compound)

  same_body : (c : ℕ) (x y : Shape) → IsCompound m.bodies c x → IsCompound m.bodies c y → x ≡ y
  same_body c x y h k = cc

  pub const_can_expand : (shape : Shape) (c depth : ℕ) (body : Shape) → shape ≡ ConstShape c → IsCompound m.bodies c body → CanExpand m shape depth → ConstCanExpand c body depth
  const_can_expand shape c depth body is compound can =
      let t = const_tree m.bodies shape c can.tree is can.expands in
      let tall : height_of (ConstTree c t.inner) ≤ depth = subst (λ (tree : Expanded). height_of tree ≤ depth) t.whole can.within in
      record {
        positive = omega arith;
        inner = record {
          is_shape = (sound.compounds c body compound).is_shape;
          tree = t.inner;
          expands = subst (λ (s : Shape). Expands m.bodies s t.inner) (same_body c t.body body t.compound compound) t.expands;
          within = omega arith;
        };
      }

  pub record CoopCanExpand (x y : Shape) (set depth : ℕ) : Type 0 where
    pub positive : 1 ≤ depth
    pub left : CanExpand m x (depth - 1)
    pub right : CanExpand m y (depth - 1)

  pub coop_can_expand : (shape x y : Shape) (set depth : ℕ) → shape ≡ CoopShape x y set → CanExpand m shape depth → CoopCanExpand x y set depth
  coop_can_expand shape x y set depth is can =
      let t = coop_tree m.bodies shape x y set can.tree is can.expands in
      let shapes : IsShapeOf m (CoopShape x y set) = subst (IsShapeOf m) is can.is_shape in
      let tall : height_of (CoopTree t.left t.right set) ≤ depth = subst (λ (tree : Expanded). height_of tree ≤ depth) t.whole can.within in
      record {
        positive = omega arith;
        left = record { is_shape = shapes.0; tree = t.left; expands = t.expands_left; within = omega arith };
        right = record { is_shape = shapes.1; tree = t.right; expands = t.expands_right; within = omega arith };
      }

  pub record HideCanExpand (x : Shape) (set depth : ℕ) : Type 0 where
    pub positive : 1 ≤ depth
    pub inner : CanExpand m x (depth - 1)

  pub hide_can_expand : (shape x : Shape) (set depth : ℕ) → shape ≡ HideShape x set → CanExpand m shape depth → HideCanExpand x set depth
  hide_can_expand shape x set depth is can =
      let t = hide_tree m.bodies shape x set can.tree is can.expands in
      let shapes : IsShapeOf m (HideShape x set) = subst (IsShapeOf m) is can.is_shape in
      let tall : height_of (HideTree t.inner set) ≤ depth = subst (λ (tree : Expanded). height_of tree ≤ depth) t.whole can.within in
      record { positive = omega arith; inner = record { is_shape = shapes.0; tree = t.inner; expands = t.expands; within = omega arith } }

  first_can_expand : CanExpand m m.system (2 ^ 21)
  first_can_expand = record { is_shape = sound.system; tree = sound.small_tree.expanded.tree; expands = sound.small_tree.expanded.expands; within = sound.small_tree.expanded.shallow }

  -- ---- terms for trees

  -- the term stands for each tree that the system expands into
  abbrev pub StandsForShape : Shape → TermNode → Type 0
  StandsForShape shape node = (tree : Expanded) → Expands m.bodies shape tree → NodeStandsFor m (expanded_state m tree) node

  pub leaf_stands : (shape : Shape) (e : Expression) (number : ℕ) → shape ≡ LeafShape e → slice_get m.leaves number ≡ Some e → StandsForShape shape (LeafNode number)
  leaf_stands shape e number is at tree expands =
      subst (λ (t : Expanded). NodeStandsFor m (expanded_state m t) (LeafNode number)) (sym (leaf_tree m.bodies shape e tree is expands)) at

  pub const_stands : (shape : Shape) (c : ℕ) (body : Shape) (term : TermNode) → shape ≡ ConstShape c → IsCompound m.bodies c body → StandsForShape body term → StandsForShape shape term
  const_stands shape c body term is compound inner tree expands =
      let t = const_tree m.bodies shape c tree is expands in
      let below = inner t.inner (subst (λ (s : Shape). Expands m.bodies s t.inner) (same_body c t.body body t.compound compound) t.expands) in
      subst (λ (e : Expanded). NodeStandsFor m (expanded_state m e) term) (sym t.whole) below

  pub const_answer : {E : Type 0} (shape : Shape) (c : ℕ) (body : Shape) (result : Result Term E) → shape ≡ ConstShape c → IsCompound m.bodies c body → IfOk result (λ term. StandsForShape body (term_of term)) → IfOk result (λ term. StandsForShape shape (term_of term))
  const_answer shape c body (Ok term) is compound inner = const_stands shape c body (term_of term) is compound inner
  const_answer shape c body (Err e) is compound inner = tt

  pub coop_stands : (shape x y : Shape) (set : ℕ) (left right : TermNode) → shape ≡ CoopShape x y set → IsShapeOf m shape → StandsForShape x left → StandsForShape y right → StandsForShape shape (CoopNode left right set)
  coop_stands shape x y set left right is shapes l r tree expands =
      let t = coop_tree m.bodies shape x y set tree is expands in
      let below_left = l t.left t.expands_left in
      let below_right = r t.right t.expands_right in
      let known : IsShapeOf m (CoopShape x y set) = subst (IsShapeOf m) is shapes in
      subst (λ (e : Expanded). NodeStandsFor m (expanded_state m e) (CoopNode left right set)) (sym t.whole)
      (below_left, below_right, slice_get-get_or m.sets set [] known.2)

  pub hide_stands : (shape x : Shape) (set : ℕ) (inner : TermNode) → shape ≡ HideShape x set → IsShapeOf m shape → StandsForShape x inner → StandsForShape shape (HideNode inner set)
  hide_stands shape x set inner is shapes h tree expands =
      let t = hide_tree m.bodies shape x set tree is expands in
      let below = h t.inner t.expands in
      let known : IsShapeOf m (HideShape x set) = subst (IsShapeOf m) is shapes in
      subst (λ (e : Expanded). NodeStandsFor m (expanded_state m e) (HideNode inner set)) (sym t.whole)
      (below, slice_get-get_or m.sets set [] known.1)

  -- ---- the model's system

  pub system_can_expand : (shape : Shape) → shape ≡ m.system → CanExpand m shape (2 ^ 21)
  system_can_expand shape is = subst (λ (s : Shape). CanExpand m s (2 ^ 21)) (sym is) first_can_expand

  is_first : (shape : Shape) (term : Term) → shape ≡ m.system → StandsForShape shape (term_of term) → IsFirstTerm m term
  is_first shape term is stands =
      let tree = sound.small_tree.expanded in
      record {
        state = expanded_state m tree.tree;
        first = record { tree = tree.tree; expands = tree.expands; state_is = refl };
        stands = subst (λ (s : Shape). StandsForShape s (term_of term)) is stands tree.tree tree.expands;
      }

  pub first_of_model : {E : Type 0} (shape : Shape) (result : Result Term E) → shape ≡ m.system → IfOk result (λ term. StandsForShape shape (term_of term)) → IfOk result (λ term. IsTermOf m term)
  first_of_model shape (Ok term) is h = let first = is_first shape term is h in node_of_model m first.state (term_of term) first.stands
  first_of_model shape (Err e) is h = tt

  pub first_term : {E : Type 0} (shape : Shape) (result : Result Term E) → shape ≡ m.system → IfOk result (λ term. StandsForShape shape (term_of term)) → IfOk result (λ term. IsFirstTerm m term)
  first_term shape (Ok term) is h = is_first shape term is h
  first_term shape (Err e) is h = tt
