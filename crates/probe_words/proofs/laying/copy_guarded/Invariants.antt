use Rattle.std.proofs.Common.{◌≡◌, take, map}
use Rattle.probe_words.specs.MarkedLetters.{has_guard}
use Rattle.probe_words.specs.Twins.{condition_of}
use Rattle.probe_words.proofs.laying.copy_guarded.Given as goal

abbrev pub invariant-loop-other : goal.invariant-loop-other
invariant-loop-other l = record {
  copied : map condition_of l.copy ≡ map condition_of (take l.other-index l.guards);
  seen : l.found ≡ has_guard (map condition_of (take l.other-index l.guards)) (condition_of l.guard);
}
