use Rattle.std.proofs.Common.{◌≡◌, ℕ, ◌<◌, List, Some}
use Rattle.std.specs.Prelude.{slice_get}
use Rattle.pepa_model.specs.PepaModel.{AreUnmixed}
use Rattle.pepa_checks.specs.declared.summand.Performed.{Performed}
use Rattle.pepa_checks.specs.MixedLists.{activities}
use Rattle.pepa_checks.proofs.mixed.first_mixed.Given as goal

abbrev pub invariant-loop-number : goal.invariant-loop-number
invariant-loop-number l = (k : ℕ) (list : List Performed) → k < l.number → slice_get l.lists k ≡ Some list → AreUnmixed (activities list)
