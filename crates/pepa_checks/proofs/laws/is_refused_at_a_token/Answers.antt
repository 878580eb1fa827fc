use Rattle.pepa_checks.proofs.ProbeLines.{refused_at_a_token}
use Rattle.pepa_checks.proofs.laws.is_refused_at_a_token.Goals as goal

pub returns : goal.returns
returns c = refused_at_a_token
