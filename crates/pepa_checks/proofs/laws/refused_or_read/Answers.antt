use Rattle.pepa_checks.proofs.ProbeLines.{refused_or_read}
use Rattle.pepa_checks.proofs.laws.refused_or_read.Goals as goal

pub returns : goal.returns
returns c = refused_or_read
