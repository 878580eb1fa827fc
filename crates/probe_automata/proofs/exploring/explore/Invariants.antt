use Rattle.std.proofs.Common.{ℕ, ◌-◌, ◌≡◌}
use Rattle.probe_automata.specs.Exploring.{candidates_of}
use Rattle.probe_automata.proofs.Exploration.{ExploredStates, ExploredRow}
use Rattle.probe_automata.proofs.exploring.explore.Given as goal

abbrev pub invariant-states : goal.invariant-states
invariant-states l = ExploredStates l.positions l.filters l.state l.sets.keys l.moves

abbrev pub decreases-states : goal.decreases-states
decreases-states l = 1024 - l.state

abbrev pub invariant-filters : goal.invariant-filters
invariant-filters l = (set : ℕ) × (l.next ≡ candidates_of l.positions set) × ExploredRow l.positions l.filters l.initial.sets.keys l.state set l.filter-index l.sets.keys l.moves
