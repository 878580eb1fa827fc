use Rattle.pepa_resolver.proofs.Within.{refused_within}
use Rattle.pepa_resolver.proofs.laws.is_refused_at_a_token.Goals as goal

pub returns : goal.returns
returns c = refused_within
