use Rattle.std.proofs.Common.{◌-◌, length}
use Rattle.probe_automata.proofs.SignalSteps.{SignalsSoFar}
use Rattle.probe_automata.proofs.signals.signals_of.Given as goal

abbrev pub invariant-loop-set : goal.invariant-loop-set
invariant-loop-set l = SignalsSoFar l.each l.sets.keys l.state l.signals

abbrev pub decreases-loop-set : goal.decreases-loop-set
decreases-loop-set l = length l.sets.keys - l.state
