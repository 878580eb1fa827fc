use Rattle.std.proofs.Common.{◌-◌, length}
use Rattle.pepa_reader.proofs.FileReading.{Going}
use Rattle.pepa_reader.proofs.file.read_file.Given as goal

abbrev pub invariant-loop-probes : goal.invariant-loop-probes
invariant-loop-probes l = Going l.input l.tokens l.at l.rates l.processes l.probes

abbrev pub decreases-loop-probes : goal.decreases-loop-probes
decreases-loop-probes l = length l.tokens - l.at
