use Rattle.sim_workers.proofs.OneOutcome.{none_earlier}
use Rattle.sim_workers.proofs.laws.stops_at_least.Goals as goal

pub returns : goal.returns
returns c = λ m order number stop h earlier other from less stops. none_earlier m order number earlier other h.2 from less stops
