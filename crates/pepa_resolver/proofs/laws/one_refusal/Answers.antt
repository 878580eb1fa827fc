use Rattle.pepa_resolver.proofs.OneRefusal.{one_refusal}
use Rattle.pepa_resolver.proofs.laws.one_refusal.Goals as goal

pub returns : goal.returns
returns c = one_refusal
