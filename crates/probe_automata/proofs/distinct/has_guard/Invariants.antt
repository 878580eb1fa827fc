use Rattle.std.proofs.Common.{◌≡◌, drop, map}
use Rattle.probe_words.specs.Guards.{same_condition}
use Rattle.probe_words.specs.Twins.{condition_of}
use Rattle.probe_words.specs.ProbeTables.{is_among_by}
use Rattle.probe_automata.proofs.distinct.has_guard.Given as goal

abbrev pub invariant-loop-other : goal.invariant-loop-other
invariant-loop-other l = is_among_by same_condition (condition_of l.guard) (map condition_of l.guards) ≡ is_among_by same_condition (condition_of l.guard) (map condition_of (drop l.other-index l.guards))
