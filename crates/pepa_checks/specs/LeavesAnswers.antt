-- What finding the leaves of a file answers.
use Rattle.std.specs.Prelude.{◌≡◌, ℕ, suc, ◌<◌, ◌≤◌, Bool, true, false, List, [], ◌∷◌, map, length}
use Rattle.pepa_model.specs.Expression.{expression_of}
use Rattle.pepa_resolver.specs.Named.{Named}
use Rattle.pepa_checks.specs.declared.leaves.Leaves.{Leaves}
use Rattle.pepa_checks.specs.Outline.{Outline, outline_with}
use Rattle.pepa_checks.specs.Activities.{written_leaves}
use Rattle.pepa_checks.specs.Summands.{AreLeafSummands, AreConstantLeaves}

-- the leaves of an outline, each with the operands of its choice
pub record AreLeaves (outline : Outline) (compounds : List Bool) (bodies written : List Named) (found : Leaves) : Type 0 where
  pub expressions_are : map expression_of found.expressions ≡ outline.leaves
  pub summands_are : AreLeafSummands outline bodies written found.summands
  pub constants_are : AreConstantLeaves outline compounds found.constants
  pub few : length outline.leaves ≤ 65535

-- the leaves of a file, which don't depend on its sets
abbrev pub IsLeavesOf : List Bool → List Named → Named → Leaves → Type 0
IsLeavesOf compounds bodies system found =
    (sets : List (List ℕ)) → AreLeaves (outline_with sets compounds bodies system) compounds bodies (written_leaves compounds bodies system) found

-- there are too many of them
abbrev pub LeavesAreTooMany : List Bool → List Named → Named → Type 0
LeavesAreTooMany compounds bodies system = (sets : List (List ℕ)) → 65535 < length (outline_with sets compounds bodies system).leaves

-- for each constant how many sequential ones stand in front of it, behind so many others
abbrev pub numbers_from : ℕ → List Bool → List ℕ
numbers_from n [] = []
numbers_from n (true ∷ flags) = n ∷ numbers_from n flags
numbers_from n (false ∷ flags) = n ∷ numbers_from (suc n) flags
