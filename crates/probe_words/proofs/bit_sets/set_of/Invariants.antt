use Rattle.std.proofs.Common.{ℕ, ◌↔◌, take}
use Rattle.probe_words.specs.MarkedLetters.{IsAmong}
use Rattle.probe_words.specs.Sets.{HasMember}
use Rattle.probe_words.proofs.bit_sets.set_of.Given as goal

abbrev pub invariant-loop-number : goal.invariant-loop-number
invariant-loop-number l = (j : ℕ) → HasMember l.set j ↔ IsAmong j (take l.number-index l.numbers)
