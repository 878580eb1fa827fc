-- The first state of a model: its system, with its compound constants expanded.
use Rattle.std.specs.Prelude.{◌≡◌, ℕ, ◌≤◌, [], slice_index_or}
use Rattle.pepa_model.specs.Expression.{Shape}
use Rattle.pepa_model.specs.Expanded.{Expanded, LeafTree, ConstTree, CoopTree, HideTree, Expands, height_of}
use Rattle.pepa_model.specs.PepaModel.{PepaModel, IsShapeOf}
use Rattle.pepa_model.specs.declared.term.Term.{Term}
use Rattle.pepa_steps.specs.States.{State, AtLeaf, Cooperating, Hiding, StandsFor}

-- a compound constant is the system that it stands for
abbrev pub expanded_state : PepaModel → Expanded → State
expanded_state m (LeafTree e) = AtLeaf e
expanded_state m (ConstTree c p) = expanded_state m p
expanded_state m (CoopTree p q set) = Cooperating (expanded_state m p) (expanded_state m q) (slice_index_or m.sets set [])
expanded_state m (HideTree p set) = Hiding (expanded_state m p) (slice_index_or m.sets set [])

-- the state of a tree that the system expands into
pub record IsFirstState (m : PepaModel) (state : State) : Type 0 where
  pub tree : Expanded
  pub expands : Expands m.bodies m.system tree
  pub state_is : state ≡ expanded_state m tree

-- the system is the model's, and expands into a tree of at most this height
pub record CanExpand (m : PepaModel) (shape : Shape) (depth : ℕ) : Type 0 where
  pub is_shape : IsShapeOf m shape
  pub tree : Expanded
  pub expands : Expands m.bodies shape tree
  pub within : height_of tree ≤ depth

-- the term stands for the first state
pub record IsFirstTerm (m : PepaModel) (term : Term) : Type 0 where
  pub state : State
  pub first : IsFirstState m state
  pub stands : StandsFor m state term

-- the term stands for the tree's state
abbrev pub IsExpandedTerm : PepaModel → Expanded → Term → Type 0
IsExpandedTerm m tree term = StandsFor m (expanded_state m tree) term

-- the term stands for the state of each tree that the system expands into
abbrev pub IsExpansionOf : PepaModel → Shape → Term → Type 0
IsExpansionOf m shape term = (tree : Expanded) → Expands m.bodies shape tree → IsExpandedTerm m tree term
