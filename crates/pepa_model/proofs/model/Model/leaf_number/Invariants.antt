use Rattle.std.proofs.Common.{◌≡◌, ℕ, ◌<◌, Some, slice_get}
use Rattle.pepa_model.specs.Expression.{expression_of}
use Rattle.pepa_model.proofs.model.Model.leaf_number.Given as goal

abbrev pub invariant-loop-number : goal.invariant-loop-number
invariant-loop-number l = (before : ℕ) → before < l.number → ¬ (slice_get l.self.leaves before ≡ Some (expression_of l.component))
