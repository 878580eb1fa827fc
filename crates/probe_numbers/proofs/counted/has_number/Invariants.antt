use Rattle.std.proofs.Common.{◌≡◌, drop, nat_eq}
use Rattle.probe_words.specs.ProbeTables.{is_among_by}
use Rattle.probe_numbers.proofs.counted.has_number.Given as goal

abbrev pub invariant-loop-other : goal.invariant-loop-other
invariant-loop-other l = is_among_by nat_eq l.number l.numbers ≡ is_among_by nat_eq l.number (drop l.other-index l.numbers)
