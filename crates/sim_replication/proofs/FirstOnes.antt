-- A model has one first state: its system expands in one way. And each model has one, which a term stands for.
use Rattle.std.proofs.Common.{◌≡◌, ℕ, List, refl, sym, ap, subst, ◌∙◌}
use Rattle.pepa_model.specs.Expression.{Shape, Definition, IsCompound}
use Rattle.pepa_model.specs.Expanded.{Expanded, LeafTree, ConstTree, CoopTree, HideTree, Expands}
use Rattle.pepa_model.specs.PepaModel.{PepaModel, IsModel, IsShapeOf}
use Rattle.pepa_model.specs.Terms.{TermNode, LeafNode, CoopNode, HideNode, term_of}
use Rattle.pepa_model.specs.declared.term.Term.{Term, Leaf, Coop', Hide'}
use Rattle.pepa_steps.specs.States.{State, NodeStandsFor, StandsFor}
use Rattle.probe_attach.specs.FirstStates.{IsFirstState, expanded_state}
use Rattle.probe_attach.proofs.FirstTerms.{leaf_tree, const_tree, coop_tree, hide_tree, StandsForShape, leaf_stands, const_stands, coop_stands, hide_stands}
use denote.RawPtr.{null_ptr}

-- ---- one

module _ (definitions : List Definition) where
  same_system : (c : ℕ) (x y : Shape) → IsCompound definitions c x → IsCompound definitions c y → x ≡ y
  same_system c x y h k = cc

  one_tree : (shape : Shape) (t u : Expanded) → Expands definitions shape t → Expands definitions shape u → t ≡ u
  one_tree shape (LeafTree e) u is h = sym (leaf_tree definitions shape e u is h)
  one_tree shape (ConstTree c p) u (is, (body, compound, inner)) h =
      let other = const_tree definitions shape c u is h in
      let P : Shape → Type 0 = λ s. Expands definitions s other.inner in
      let same = one_tree body p other.inner inner (subst P (same_system c other.body body other.compound compound) other.expands) in
      ap (λ (t : Expanded). ConstTree c t) same ∙ sym other.whole
  one_tree shape (CoopTree p q set) u (x, y, is, left, right) h =
      let other = coop_tree definitions shape x y set u is h in
      ap (λ (t : Expanded). CoopTree t q set) (one_tree x p other.left left other.expands_left)
      ∙ ap (λ (t : Expanded). CoopTree other.left t set) (one_tree y q other.right right other.expands_right) ∙ sym other.whole
  one_tree shape (HideTree p set) u (x, is, inner) h =
      let other = hide_tree definitions shape x set u is h in
      ap (λ (t : Expanded). HideTree t set) (one_tree x p other.inner inner other.expands) ∙ sym other.whole

pub one_first : (m : PepaModel) (p q : State) → IsFirstState m p → IsFirstState m q → p ≡ q
one_first m p q h k =
    h.state_is ∙ ap (expanded_state m) (one_tree m.bodies m.system h.tree k.tree h.expands k.expands) ∙ sym k.state_is

-- ---- some

-- a term stands for the state
abbrev pub HasTerm : PepaModel → State → Type 0
HasTerm m state = (term : Term) × StandsFor m state term

-- each node is that of a term; where its parts lie doesn't matter
node_term : (node : TermNode) → (term : Term) × (term_of term ≡ node)
node_term (LeafNode k) = (Leaf k, refl)
node_term (CoopNode x y k) =
    let left = node_term x in
    let right = node_term y in
    (Coop' (record { ptr = null_ptr; alloc = record { memory = record { seal = tt } }; value = tt }) left.0 (record { ptr = null_ptr; alloc = record { memory = record { seal = tt } }; value = tt }) right.0 k, ap (λ (n : TermNode). CoopNode n (term_of right.0) k) left.1 ∙ ap (λ (n : TermNode). CoopNode x n k) right.1)
node_term (HideNode x k) =
    let inner = node_term x in
    (Hide' (record { ptr = null_ptr; alloc = record { memory = record { seal = tt } }; value = tt }) inner.0 k, ap (λ (n : TermNode). HideNode n k) inner.1)

module _ (m : PepaModel) (sound : IsModel m) where
  tree_node : (shape : Shape) (tree : Expanded) → IsShapeOf m shape → Expands m.bodies shape tree → (node : TermNode) × StandsForShape m sound shape node
  tree_node shape (LeafTree e) shapes is =
      let number = subst (IsShapeOf m) is shapes in
      (LeafNode number.0, leaf_stands m sound shape e number.0 is number.1)
  tree_node shape (ConstTree c p) shapes (is, (body, compound, expands)) =
      let inner = tree_node body p (sound.compounds c body compound).is_shape expands in
      (inner.0, const_stands m sound shape c body inner.0 is compound inner.1)
  tree_node shape (CoopTree p q set) shapes (x, y, is, of_p, of_q) =
      let parts = subst (IsShapeOf m) is shapes in
      let left = tree_node x p parts.0 of_p in
      let right = tree_node y q parts.1 of_q in
      (CoopNode left.0 right.0 set, coop_stands m sound shape x y set left.0 right.0 is shapes left.1 right.1)
  tree_node shape (HideTree p set) shapes (x, is, of_p) =
      let parts = subst (IsShapeOf m) is shapes in
      let inner = tree_node x p parts.0 of_p in
      (HideNode inner.0 set, hide_stands m sound shape x set inner.0 is shapes inner.1)

  pub some_first : (state : State) × IsFirstState m state × HasTerm m state
  some_first =
      let tree = sound.small_tree.expanded in
      let node = tree_node m.system tree.tree sound.system tree.expands in
      let term = node_term node.0 in (
        expanded_state m tree.tree,
        record { tree = tree.tree; expands = tree.expands; state_is = refl },
        (term.0, subst (NodeStandsFor m (expanded_state m tree.tree)) (sym term.1) (node.1 tree.tree tree.expands)),
      )
