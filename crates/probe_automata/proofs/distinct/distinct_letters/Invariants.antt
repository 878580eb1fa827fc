use Rattle.std.proofs.Common.{◌≡◌, take, map, []}
use Rattle.probe_words.specs.ProbeTables.{by_first_places, same_letter}
use Rattle.probe_automata.proofs.distinct.distinct_letters.Given as goal

abbrev pub invariant-loop-position : goal.invariant-loop-position
invariant-loop-position l = l.letters ≡ by_first_places same_letter [] (map (λ x. x.letter) (take l.position-index l.each))
