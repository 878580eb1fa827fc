use Rattle.std.proofs.Common.{◌≡◌, ℕ, List, ◌++◌}
use Rattle.probe_automata.specs.Filters.{IsFilterRow}
use Rattle.probe_automata.proofs.filters.push_filters.Given as goal

abbrev pub invariant-loop-valuation : goal.invariant-loop-valuation
invariant-loop-valuation l = (row : List ℕ) × (l.filters ≡ l.initial.filters ++ row) × IsFilterRow l.each l.guards l.letter l.valuation row
