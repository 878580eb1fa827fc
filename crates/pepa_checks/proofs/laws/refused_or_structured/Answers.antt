use Rattle.pepa_checks.proofs.OneRefusal.{refused_or_structured}
use Rattle.pepa_checks.proofs.laws.refused_or_structured.Goals as goal

pub returns : goal.returns
returns c = refused_or_structured
