use Rattle.std.proofs.Common.{map, [], ap, ◌∙◌, List}
use Rattle.probe_words.specs.declared.position_list.Position.{Position}
use Rattle.probe_words.specs.declared.guard.Guard.{Guard}
use Rattle.probe_words.specs.Guards.{same_condition}
use Rattle.probe_words.specs.Twins.{condition_of}
use Rattle.probe_words.specs.ProbeTables.{by_first_places}
use Rattle.probe_automata.proofs.FirstPlaces.{once_all_step}
use Rattle.probe_automata.proofs.distinct.distinct_guards.Goals as goal

pub loop-position-preserved : goal.loop-position-preserved
loop-position-preserved c =
    once_all_step same_condition (λ (x : Position). map condition_of x.guards) c.args.each.now c.loop-position.position-index c.position-item.result [] (map condition_of c.loop-position.guards) (map condition_of c.add_guards.new.found) c.loop-position-test.true c.position-item.is c.loop-position.invariant
    (c.in_ok-add_guards.ensures ∙ ap (λ (z : List Guard). by_first_places same_condition (map condition_of c.loop-position.guards) (map condition_of z)) c.as_slice.ensures)
