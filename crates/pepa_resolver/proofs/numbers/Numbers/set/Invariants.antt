use Rattle.std.proofs.Common.{◌≡◌, map, take}
use Rattle.pepa_resolver.specs.NumberSteps.{naming_by}
use Rattle.pepa_resolver.proofs.numbers.Numbers.set.Given as goal

abbrev pub invariant-loop-word : goal.invariant-loop-word
invariant-loop-word l = l.numbers.items ≡ map (naming_by l.self).action (take l.word-index l.words)
