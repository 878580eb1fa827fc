use Rattle.std.proofs.Common.{◌≡◌, drop}
use Rattle.probe_automata.specs.Exploring.{unite}
use Rattle.probe_automata.proofs.exploring.candidates.Given as goal

abbrev pub invariant-loop-at : goal.invariant-loop-at
invariant-loop-at l = unite l.set l.at l.all (drop l.at l.positions.follow) ≡ unite l.set 0 0 l.positions.follow
