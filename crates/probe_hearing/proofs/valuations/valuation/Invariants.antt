use Rattle.std.proofs.Common.{◌≡◌, ◌<◌, ◌+◌, ◌*◌, ◌^◌, drop, map}
use Rattle.probe_words.specs.Twins.{condition_of}
use Rattle.probe_automata.specs.TableMoves.{valuation_of}
use Rattle.probe_hearing.proofs.valuations.valuation.Given as goal

abbrev pub invariant-loop-at : goal.invariant-loop-at
invariant-loop-at l = (l.bits < 2 ^ l.at)
    × (l.bits + 2 ^ l.at * valuation_of l.counts (map condition_of (drop l.at l.guards)) ≡ valuation_of l.counts (map condition_of l.guards))
