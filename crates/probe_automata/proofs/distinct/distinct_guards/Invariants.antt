use Rattle.std.proofs.Common.{◌≡◌, take, map, []}
use Rattle.std.specs.Prelude.{flat_map}
use Rattle.probe_words.specs.Guards.{same_condition}
use Rattle.probe_words.specs.Twins.{condition_of}
use Rattle.probe_words.specs.ProbeTables.{by_first_places}
use Rattle.probe_automata.proofs.distinct.distinct_guards.Given as goal

abbrev pub invariant-loop-position : goal.invariant-loop-position
invariant-loop-position l = map condition_of l.guards ≡ by_first_places same_condition [] (flat_map (λ x. map condition_of x.guards) (take l.position-index l.each))
