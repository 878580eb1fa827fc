use Rattle.pepa_resolver.proofs.ValueLemmas.{one_proper}
use Rattle.pepa_resolver.proofs.numbers.Numbers.rate.Goals as goal

pub invariant_of-given : goal.invariant_of-given
invariant_of-given c = one_proper
