use Rattle.std.proofs.Common.{◌≡◌, ◌++◌}
use Rattle.std.specs.Prelude.{codes}
use Rattle.model_maker.proofs.Joined.{more_names}
use Rattle.model_maker.proofs.making.push_joined.Given as goal

abbrev pub invariant-loop-more : goal.invariant-loop-more
invariant-loop-more l = l.to.items ≡ l.fn.to.items ++ l.name ++ more_names (codes " || ") l.name l._more
