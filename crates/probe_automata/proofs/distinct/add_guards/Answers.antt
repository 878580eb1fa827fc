use Rattle.std.proofs.Common.{map}
use Rattle.probe_words.specs.Guards.{same_condition}
use Rattle.probe_words.specs.Twins.{condition_of}
use Rattle.probe_automata.proofs.FirstPlaces.{once_step}
use Rattle.probe_automata.proofs.distinct.add_guards.Goals as goal

pub loop-guard-preserved : goal.loop-guard-preserved
loop-guard-preserved c = once_step same_condition condition_of c.args.guards.now c.loop-guard.guard-index c.guard-item.result (map condition_of c.args.found.now) (map condition_of c.loop-guard.found) (map condition_of c.add_guard.new.guards) c.loop-guard-test.true c.guard-item.is c.loop-guard.invariant c.in_ok-add_guard.ensures
