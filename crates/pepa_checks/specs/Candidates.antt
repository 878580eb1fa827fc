-- The processes of a file whose expressions are leaves, as a walk collects them.
use Rattle.std.specs.Prelude.{◌≡◌, ℕ, suc, ◌≤◌, Bool, true, false, ◌||◌, List, [], ◌∷◌, ◌++◌, length, drop, reverse, Some, slice_get}
use Rattle.std.specs.List.{AllZip}
use Rattle.pepa_model.specs.Expression.{Expression, Const}
use Rattle.pepa_resolver.specs.Named.{Named, NamedConstant, NamedPrefix, NamedChoice, NamedCoop, NamedHide}
use Rattle.pepa_resolver.specs.NamedTypes.{named_of}
use Rattle.pepa_checks.specs.Structure.{has_system}
use Rattle.pepa_checks.specs.declared.summand.Summand.{Summand}
use Rattle.pepa_checks.specs.declared.summand.Summand.TheVariants.{Constant, Activity}
use Rattle.pepa_checks.specs.declared.expressions.Candidate.{Candidate}
use Rattle.pepa_checks.specs.declared.expressions.Walk.{Walk}
use Rattle.pepa_checks.specs.declared.expressions.Head.{Head}
use Rattle.pepa_checks.specs.declared.expressions.FileWalk.{FileWalk}
use Rattle.pepa_checks.specs.Outline.{expression_in}
use Rattle.pepa_checks.specs.Activities.{written_followers, written_components, written_in, written_leaves}
use Rattle.pepa_checks.specs.NodeTables.{expressions_by, IsNodeTable, ExtendsNodes, Has}

-- the operands of a sequential process's choice, the last one first, where an activity has the place of what follows in a list
-- of expressions
abbrev pub AreOperands : List Expression → Named → List Summand → Type 0
AreOperands es (NamedConstant at c) operands = operands ≡ Constant c ∷ []
AreOperands es (NamedPrefix at action rate next) operands =
    (n : ℕ) × (slice_get es n ≡ Some (expression_in next)) × (operands ≡ Activity at action rate n ∷ [])
AreOperands es (NamedChoice left right) operands =
    (first : List Summand) × (second : List Summand) × AreOperands es left first × AreOperands es right second × (operands ≡ second ++ first)
AreOperands es (NamedCoop left right set) operands = operands ≡ []
AreOperands es (NamedHide inner set) operands = operands ≡ []

-- a candidate that stands for this process
pub record IsCandidate (es : List Expression) (process : Named) (candidate : Candidate) : Type 0 where
  pub process_is : named_of candidate.process.now ≡ process
  pub number_is : slice_get es candidate.number ≡ Some (expression_in process)
  pub operands_are : AreOperands es process candidate.operands

-- what was walked so far: its expressions have nodes, and its candidates stand for these processes, the last one first
pub record Stands (walk : Walk) (written : List Named) : Type 0 where
  pub table : IsNodeTable walk.nodes.keys
  pub candidates_are : AllZip (IsCandidate (expressions_by walk.nodes.keys)) written (reverse walk.candidates)

-- a process was walked: its expression has this number, its operands are behind the others, and what follows its activities
-- is written in front of the others
pub record Walked (old new : Walk) (before after : List Summand) (written : List Named) (process : Named) (number : ℕ) : Type 0 where
  pub stands : Stands new (written_followers process ++ written)
  pub has : Has old.nodes.keys new.nodes.keys number (expression_in process)
  pub operands : List Summand
  pub operands_are : AreOperands (expressions_by new.nodes.keys) process operands
  pub after_is : after ≡ before ++ operands

-- the candidates came to stand for these processes
pub record Put (old new : Walk) (written : List Named) : Type 0 where
  pub stands : Stands new written
  pub grows : ExtendsNodes (expressions_by old.nodes.keys) (expressions_by new.nodes.keys)

-- a part that has to be sequential has a cooperation or a hiding in it
abbrev pub has_system_part : Named → Bool
has_system_part (NamedConstant at c) = false
has_system_part (NamedPrefix at action rate next) = has_system next
has_system_part (NamedChoice left right) = has_system left || has_system right
has_system_part (NamedCoop left right set) = has_system_part left || has_system_part right
has_system_part (NamedHide inner set) = has_system_part inner

-- a sequential constant and its body
pub record ConstantLine : Type 0 where
  pub constant : ℕ
  pub body : Named

-- the sequential constants from this number on, where the flags say which constants are compound
abbrev pub sequential_lines : ℕ → List Bool → List Named → List ConstantLine
sequential_lines c [] bodies = []
sequential_lines c (flag ∷ flags) [] = []
sequential_lines c (true ∷ flags) (body ∷ bodies) = sequential_lines (suc c) flags bodies
sequential_lines c (false ∷ flags) (body ∷ bodies) = record { constant = c; body = body } ∷ sequential_lines (suc c) flags bodies

-- what was found of a sequential constant
pub record IsHead (es : List Expression) (line : ConstantLine) (head : Head) : Type 0 where
  pub constant_is : head.constant ≡ line.constant
  pub number_is : slice_get es head.number ≡ Some (Const line.constant)
  pub operands_are : AreOperands es line.body head.operands

-- the heads are those of the lines, the last one first
abbrev pub AreHeads : Walk → List ConstantLine → List Head → Type 0
AreHeads walk lines heads = AllZip (IsHead (expressions_by walk.nodes.keys)) lines (reverse heads)

-- a sequential constant was walked
pub record LineWalked (new : Walk) (heads : List Head) (written : List Named) (lines : List ConstantLine) (line : ConstantLine) : Type 0 where
  pub stands : Stands new (written_followers line.body ++ written)
  pub heads_are : AreHeads new (line ∷ lines) heads

-- a file was walked
pub record IsFileWalk (compounds : List Bool) (bodies : List Named) (system : Named) (found : FileWalk) : Type 0 where
  pub stands : Stands found.walk (written_leaves compounds bodies system)
  pub heads_are : AreHeads found.walk (sequential_lines 0 compounds bodies) found.heads

-- the lines from this number on were walked, behind the system
pub record IsWalking (compounds : List Bool) (bodies : List Named) (system : Named) (walk : Walk) (heads : List Head) (left : ℕ) : Type 0 where
  pub within : left ≤ length bodies
  pub stands : Stands walk (written_in compounds (drop left compounds) (drop left bodies) ++ written_components compounds system)
  pub heads_are : AreHeads walk (sequential_lines left (drop left compounds) (drop left bodies)) heads
