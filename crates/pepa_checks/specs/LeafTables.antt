-- The leaves so far, in a table.
use Rattle.std.specs.Prelude.{◌≡◌, ℕ, false, if◌then◌else◌, List, [], ◌∷◌, ◌++◌, map, fold, reverse, position, unwrap_or, nat_eq, Some, slice_get, slice_index_or}
use Rattle.std.specs.List.{AllZip, list_any}
use Rattle.pepa_model.specs.Expression.{Expression, expression_of}
use Rattle.pepa_model.specs.Leaves.{same_expression}
use Rattle.pepa_resolver.specs.Named.{Named, NamedConstant, NamedPrefix, NamedChoice, NamedCoop, NamedHide}
use Rattle.pepa_checks.specs.declared.summand.Summand.{Summand}
use Rattle.pepa_checks.specs.declared.summand.Summand.TheVariants.{Constant, Activity}
use Rattle.pepa_checks.specs.declared.leaf_table.LeafTable.{LeafTable}
use Rattle.pepa_checks.specs.Activities.{IsFirstWritten}
use Rattle.pepa_checks.specs.Candidates.{AreOperands}

-- the expressions, with this one behind the others unless it is there
abbrev pub with_expression : List Expression → Expression → List Expression
with_expression es e = if list_any (same_expression e) es then es else es ++ e ∷ []

-- the expressions, with these behind the others, one after another
abbrev pub with_expressions : List Expression → List Expression → List Expression
with_expressions es more = fold with_expression es more

-- a file that was walked: its nodes' expressions, each of them once, what its constants stand for, and the processes whose
-- expressions are leaves
pub record Text : Type 0 where
  pub nodes : List Expression
  pub apart : (m n : ℕ) (e : Expression) → slice_get nodes m ≡ Some e → slice_get nodes n ≡ Some e → m ≡ n
  pub bodies : List Named
  pub written : List Named

-- the process whose operands a leaf has that is written as this one: a constant has those of its body
abbrev pub chooser : List Named → Named → Named
chooser bodies (NamedConstant at c) = slice_index_or bodies c (NamedConstant at c)
chooser bodies (NamedPrefix at action rate next) = NamedPrefix at action rate next
chooser bodies (NamedChoice left right) = NamedChoice left right
chooser bodies (NamedCoop left right set) = NamedCoop left right set
chooser bodies (NamedHide inner set) = NamedHide inner set

-- the operands of a leaf's choice, with the numbers of nodes
pub record IsChoiceOf (text : Text) (leaf : Expression) (operands : List Summand) : Type 0 where
  pub process : Named
  pub first_written : IsFirstWritten text.written leaf process
  pub operands_are : AreOperands text.nodes (chooser text.bodies process) operands

-- the number is that of the expression's node
abbrev pub IsNodeAt : List Expression → ℕ → Expression → Type 0
IsNodeAt nodes number e = slice_get nodes number ≡ Some e

-- the table has these leaves
pub record IsLeafTable (text : Text) (leaves : List Expression) (table : LeafTable) : Type 0 where
  pub numbers_are : AllZip (IsNodeAt text.nodes) table.numbers.keys leaves
  pub expressions_are : map expression_of table.expressions ≡ leaves
  pub operands_are : AllZip (IsChoiceOf text) leaves table.operands

-- the expression of this node came into the table, if it wasn't there, with these operands
abbrev pub AddsNode : LeafTable → LeafTable → ℕ → Expression → List Summand → Type 0
AddsNode old new number e operands =
    (text : Text) (leaves : List Expression) → IsNodeAt text.nodes number e → IsLeafTable text leaves old
    → (list_any (same_expression e) leaves ≡ false → IsChoiceOf text e operands)
    → IsLeafTable text (with_expression leaves e) new

-- the place of a node in a table of leaves
abbrev pub place_by : List ℕ → ℕ → ℕ
place_by numbers node = unwrap_or (position (nat_eq node) numbers) 0

-- an operand, with the number of a leaf in place of a node's
abbrev pub retargeted : List ℕ → Summand → Summand
retargeted numbers (Constant c) = Constant c
retargeted numbers (Activity at action rate node) = Activity at action rate (place_by numbers node)

-- the operands from the first one on, with the numbers of leaves
abbrev pub renumbered : List ℕ → List Summand → List Summand
renumbered numbers operands = reverse (map (retargeted numbers) operands)
