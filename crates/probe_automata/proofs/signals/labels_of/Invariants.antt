use Rattle.std.proofs.Common.{◌≡◌, ◌<◌, ◌↔◌, ℕ, Some}
use Rattle.std.specs.Prelude.{slice_get}
use Rattle.probe_words.specs.declared.position_list.Position.{Position}
use Rattle.probe_words.specs.Sets.{HasMember}
use Rattle.probe_automata.proofs.signals.labels_of.Given as goal

abbrev pub invariant-loop-at : goal.invariant-loop-at
invariant-loop-at l = (m : ℕ) → HasMember l.labels m ↔ ((y : ℕ) × (x : Position) × HasMember l.set y × (slice_get l.each y ≡ Some x) × HasMember x.labels m × (y < l.at))
