use Rattle.std.proofs.Common.{◌≡◌, take, map}
use Rattle.probe_words.specs.Guards.{same_condition}
use Rattle.probe_words.specs.Twins.{condition_of}
use Rattle.probe_words.specs.ProbeTables.{by_first_places}
use Rattle.probe_automata.proofs.distinct.add_guards.Given as goal

abbrev pub invariant-loop-guard : goal.invariant-loop-guard
invariant-loop-guard l = map condition_of l.found ≡ by_first_places same_condition (map condition_of l.initial.found) (map condition_of (take l.guard-index l.guards))
