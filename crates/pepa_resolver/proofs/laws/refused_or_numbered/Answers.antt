use Rattle.pepa_resolver.proofs.OneRefusal.{refused_or_numbered}
use Rattle.pepa_resolver.proofs.laws.refused_or_numbered.Goals as goal

pub returns : goal.returns
returns c = refused_or_numbered
