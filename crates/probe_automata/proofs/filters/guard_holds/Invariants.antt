use Rattle.std.proofs.Common.{◌≡◌, drop, map}
use Rattle.probe_words.specs.Twins.{condition_of}
use Rattle.probe_automata.specs.Filters.{is_opened}
use Rattle.probe_automata.proofs.filters.guard_holds.Given as goal

abbrev pub invariant-loop-at : goal.invariant-loop-at
invariant-loop-at l = is_opened (map condition_of l.guards) 0 l.valuation (condition_of l.guard) ≡ is_opened (map condition_of (drop l.at l.guards)) l.at l.valuation (condition_of l.guard)
