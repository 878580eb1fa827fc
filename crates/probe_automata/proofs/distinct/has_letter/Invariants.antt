use Rattle.std.proofs.Common.{◌≡◌, drop}
use Rattle.probe_words.specs.ProbeTables.{is_among_by, same_letter}
use Rattle.probe_automata.proofs.distinct.has_letter.Given as goal

abbrev pub invariant-loop-other : goal.invariant-loop-other
invariant-loop-other l = is_among_by same_letter l.letter l.letters ≡ is_among_by same_letter l.letter (drop l.other-index l.letters)
