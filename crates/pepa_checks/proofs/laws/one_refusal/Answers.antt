use Rattle.pepa_checks.proofs.ProbeLines.{one_refusal}
use Rattle.pepa_checks.proofs.laws.one_refusal.Goals as goal

pub returns : goal.returns
returns c = one_refusal
