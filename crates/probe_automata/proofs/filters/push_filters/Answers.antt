use Rattle.probe_automata.proofs.FilterSteps.{row_step}
use Rattle.probe_automata.proofs.filters.push_filters.Goals as goal

pub loop-valuation-preserved : goal.loop-valuation-preserved
loop-valuation-preserved c = row_step c.args.each.now c.args.guards.now c.args.letter.now c.loop-valuation.valuation c.args.filters.now c.loop-valuation.filters c.push.new.self c.filter_of.result c.loop-valuation.invariant c.filter_of.ensures c.in_ok-push.ensures.ok
