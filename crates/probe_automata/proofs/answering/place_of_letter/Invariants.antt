use Rattle.std.proofs.Common.{◌≡◌, drop}
use Rattle.probe_automata.specs.TableMoves.{letter_place}
use Rattle.probe_automata.proofs.answering.place_of_letter.Given as goal

abbrev pub invariant-loop-at : goal.invariant-loop-at
invariant-loop-at l = letter_place l.letter 0 l.letters ≡ letter_place l.letter l.at (drop l.at l.letters)
