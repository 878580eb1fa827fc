use Rattle.std.proofs.Common.{◌≡◌, [], replicate}
use Rattle.pepa_checks.proofs.activities.Lists.new.Given as goal

abbrev pub invariant-loop-made : goal.invariant-loop-made
invariant-loop-made l = l.lists ≡ replicate l._made []
