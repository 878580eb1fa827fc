use Rattle.std.proofs.Common.{◌≡◌, ◌<◌, ◌↔◌, ℕ, Some, true}
use Rattle.std.specs.Prelude.{slice_get}
use Rattle.probe_words.specs.declared.position_list.Position.{Position}
use Rattle.probe_words.specs.Sets.{HasMember}
use Rattle.probe_automata.specs.Filters.{passes}
use Rattle.probe_automata.proofs.filters.filter_of.Given as goal

abbrev pub invariant-loop-at : goal.invariant-loop-at
invariant-loop-at l = (i : ℕ) → HasMember l.set i ↔ ((x : Position) × (slice_get l.each i ≡ Some x) × (passes l.guards l.valuation l.letter x ≡ true) × (i < l.at))
