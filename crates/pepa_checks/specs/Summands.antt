-- What leaves choose between, and what they perform.
use Rattle.std.specs.Prelude.{◌≡◌, ℕ, Bool, false, List, [], ◌∷◌, ◌++◌, map, length, Some, slice_get, slice_index_or}
use Rattle.pepa_model.specs.Expression.{Expression, Const}
use Rattle.pepa_model.specs.Opened.{Opened, Opens}
use Rattle.pepa_resolver.specs.Named.{Named, NamedConstant, NamedPrefix, NamedChoice, NamedCoop, NamedHide}
use Rattle.pepa_checks.specs.declared.summand.Summand.{Summand}
use Rattle.pepa_checks.specs.declared.summand.Summand.TheVariants.{Constant, Activity}
use Rattle.pepa_checks.specs.declared.summand.Performed.{Performed}
use Rattle.pepa_checks.specs.Outline.{Outline, expression_in}
use Rattle.pepa_checks.specs.Activities.{leaf_number, activities_in, sites, IsFirstWritten}

-- the operands of a sequential process's choice
abbrev pub summands_in : List Expression → Named → List Summand
summands_in leaves (NamedConstant at c) = Constant c ∷ []
summands_in leaves (NamedPrefix at action rate next) = Activity at action rate (leaf_number leaves (expression_in next)) ∷ []
summands_in leaves (NamedChoice left right) = summands_in leaves left ++ summands_in leaves right
summands_in leaves (NamedCoop left right set) = []
summands_in leaves (NamedHide inner set) = []

-- a leaf that is a constant chooses as its body does
abbrev pub leaf_summands : List Expression → List Named → Named → List Summand
leaf_summands leaves bodies (NamedConstant at c) = summands_in leaves (slice_index_or bodies c (NamedConstant at c))
leaf_summands leaves bodies process = summands_in leaves process

-- the operands of a leaf, as it is first written
pub record AreSummandsOf (outline : Outline) (bodies written : List Named) (leaf : Expression) (summands : List Summand) : Type 0 where
  pub process : Named
  pub first_written : IsFirstWritten written leaf process
  pub are : summands ≡ leaf_summands outline.leaves bodies process

-- the operands of each leaf, by number
pub record AreLeafSummands (outline : Outline) (bodies written : List Named) (lists : List (List Summand)) : Type 0 where
  pub one_each : length lists ≡ length outline.leaves
  pub each : (number : ℕ) (leaf : Expression) (list : List Summand) → slice_get outline.leaves number ≡ Some leaf → slice_get lists number ≡ Some list → AreSummandsOf outline bodies written leaf list

-- the numbers of the leaves that are sequential constants, by constant
pub record AreConstantLeaves (outline : Outline) (compounds : List Bool) (numbers : List ℕ) : Type 0 where
  pub one_each : length numbers ≡ length compounds
  pub each : (c number : ℕ) → slice_get compounds c ≡ Some false → slice_get numbers c ≡ Some number → slice_get outline.leaves number ≡ Some (Const c)

-- what a leaf performs: the activities of its opened expression, each with the index where it is written
pub record IsPerformed (outline : Outline) (bodies : List Named) (process : Named) (opened : Opened) (list : List Performed) : Type 0 where
  pub activities : map (λ p. p.activity) list ≡ activities_in outline.leaves opened
  pub places : map (λ p. p.at) list ≡ sites bodies process opened

pub record IsPerformedBy (outline : Outline) (bodies written : List Named) (leaf : Expression) (list : List Performed) : Type 0 where
  pub process : Named
  pub first_written : IsFirstWritten written leaf process
  pub performed : (opened : Opened) → Opens outline.definitions leaf opened → IsPerformed outline bodies process opened list

-- what each leaf performs, by number
pub record ArePerformed (outline : Outline) (bodies written : List Named) (lists : List (List Performed)) : Type 0 where
  pub one_each : length lists ≡ length outline.leaves
  pub each : (number : ℕ) (leaf : Expression) (list : List Performed) → slice_get outline.leaves number ≡ Some leaf → slice_get lists number ≡ Some list → IsPerformedBy outline bodies written leaf list
