use Rattle.intern_core.proofs.Bound.{reached}
use Rattle.intern_core.proofs.laws.bound_is_reached.Goals as goal

pub returns : goal.returns
returns c = reached
