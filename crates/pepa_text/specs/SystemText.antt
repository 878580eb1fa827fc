-- The text of systems: of those that a model's constants stand for, and of the states that terms stand for.
use Rattle.std.specs.Prelude.{ℕ, Bool, true, false, List, ◌++◌, slice_index_or, codes}
use Rattle.pepa_model.specs.Expression.{Expression, Const, Shape, LeafShape, ConstShape, CoopShape, HideShape, shape_of}
use Rattle.pepa_model.specs.PepaModel.{PepaModel}
use Rattle.pepa_model.specs.Terms.{TermNode, LeafNode, CoopNode, HideNode, term_of}
use Rattle.pepa_model.specs.declared.term.Shape2.{Shape2}
use Rattle.pepa_model.specs.declared.term.Term.{Term}
use Rattle.pepa_text.specs.ComponentText.{operand_text, is_composed, expression_text}
use Rattle.pepa_text.specs.SetText.{set_of, sign_text, hiding_text}

-- ---- systems without the numbers of leaves and sets

-- a component, which may be a constant; two systems that cooperate over a set of action types; or a system that hides one
pub data WrittenSystem : Type 0 where
  WrittenComponent : Expression → WrittenSystem
  WrittenCooperation : WrittenSystem → WrittenSystem → List ℕ → WrittenSystem
  WrittenHiding : WrittenSystem → List ℕ → WrittenSystem

-- the system is a cooperation
abbrev pub is_cooperation : WrittenSystem → Bool
is_cooperation (WrittenComponent e) = false
is_cooperation (WrittenCooperation x y set) = true
is_cooperation (WrittenHiding x set) = false

-- the system has brackets before `/`: it is neither a constant nor a hiding
abbrev pub is_bracketed : WrittenSystem → Bool
is_bracketed (WrittenComponent e) = is_composed e
is_bracketed (WrittenCooperation x y set) = true
is_bracketed (WrittenHiding x set) = false

-- a system as it is written: a cooperation has brackets after the sign of another one
abbrev pub system_text : PepaModel → WrittenSystem → List ℕ
system_text m (WrittenComponent e) = expression_text m e
system_text m (WrittenCooperation x y set) =
    system_text m x ++ codes " " ++ sign_text m set ++ codes " " ++ operand_text (is_cooperation y) (system_text m y)
system_text m (WrittenHiding x set) = operand_text (is_bracketed x) (system_text m x) ++ hiding_text m set

-- ---- what constants stand for

-- the system with its sets
abbrev pub written_shape : PepaModel → Shape → WrittenSystem
written_shape m (LeafShape e) = WrittenComponent e
written_shape m (ConstShape c) = WrittenComponent (Const c)
written_shape m (CoopShape x y set) = WrittenCooperation (written_shape m x) (written_shape m y) (set_of m set)
written_shape m (HideShape x set) = WrittenHiding (written_shape m x) (set_of m set)

abbrev pub shape_text : PepaModel → Shape → List ℕ
shape_text m shape = system_text m (written_shape m shape)

-- the text of the system that the program holds
abbrev pub shape_text_of : PepaModel → Shape2 → List ℕ
shape_text_of m shape = shape_text m (shape_of shape)

-- ---- terms

-- the term with its leaves and sets
abbrev pub written_node : PepaModel → TermNode → WrittenSystem
written_node m (LeafNode number) = WrittenComponent (slice_index_or m.leaves number (Const 0))
written_node m (CoopNode x y set) = WrittenCooperation (written_node m x) (written_node m y) (set_of m set)
written_node m (HideNode x set) = WrittenHiding (written_node m x) (set_of m set)

abbrev pub node_text : PepaModel → TermNode → List ℕ
node_text m node = system_text m (written_node m node)

-- the text of the term that the program holds
abbrev pub term_text : PepaModel → Term → List ℕ
term_text m term = node_text m (term_of term)
