use Rattle.probe_automata.proofs.Exploration.{number_refused, number_given}
use Rattle.probe_automata.proofs.exploring.number.Goals as goal

pub returns-then-place-ge-STATE_LIMIT : goal.returns-then-place-ge-STATE_LIMIT
returns-then-place-ge-STATE_LIMIT c = number_refused c.args.sets.now.keys c.insert.new.sets.keys c.args.set c.in_ok-place.place c.requires c.in_ok-place.ensures.keys c.in_ok-place.ensures.place c.if-place-ge-STATE_LIMIT.true

pub returns : goal.returns
returns c = number_given c.args.sets.now.keys c.insert.new.sets.keys c.args.set c.in_ok-place.place c.move_number.result c.requires c.in_ok-place.ensures.keys c.in_ok-place.ensures.place (c.if-place-ge-STATE_LIMIT.false) c.move_number.ensures
