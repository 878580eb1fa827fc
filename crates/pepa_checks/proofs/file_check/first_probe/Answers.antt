use Rattle.std.proofs.Common.{sym}
use Rattle.pepa_checks.proofs.ProbeLines.{no_first, is_first}
use Rattle.pepa_checks.proofs.file_check.first_probe.Goals as goal

pub returns-in-Some : goal.returns-in-Some
returns-in-Some c = is_first c.args.lines.now c.in-Some.line.now (sym c.in-Some.ensures)

pub returns-in-None : goal.returns-in-None
returns-in-None c = no_first c.args.lines.now (sym c.in-None.ensures)
