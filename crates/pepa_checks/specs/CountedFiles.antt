-- What counting a file's parts answers.
use Rattle.std.specs.Prelude.{◌≡◌, ℕ, Bool, List, map}
use Rattle.indexmap.specs.IndexMap.{keys}
use Rattle.pepa_model.specs.Expression.{expression_of}
use Rattle.pepa_resolver.specs.Named.{Named}
use Rattle.pepa_checks.specs.declared.counting.Counted.{Counted}
use Rattle.pepa_checks.specs.Outline.{outline_of, sets_of}
use Rattle.pepa_checks.specs.Activities.{written_leaves}
use Rattle.pepa_checks.specs.Summands.{ArePerformed}
use Rattle.pepa_checks.specs.Limits.{PassesLimit}

-- a file that passes no limit: its sets, its leaves, and what they perform
pub record IsCounted (actions : List (List ℕ)) (compounds : List Bool) (bodies : List Named) (system : Named) (counted : Counted) : Type 0 where
  pub within : ¬ PassesLimit actions (outline_of compounds bodies system)
  pub sets_are : keys counted.sets ≡ sets_of bodies system
  pub leaves_are : map expression_of counted.leaves.expressions ≡ (outline_of compounds bodies system).leaves
  pub performed_are : ArePerformed (outline_of compounds bodies system) bodies (written_leaves compounds bodies system) counted.performed
