use Rattle.std.proofs.Common.{sym}
use Rattle.probe_automata.proofs.SignalSteps.{signals_step}
use Rattle.probe_automata.proofs.signals.signals_of.Goals as goal

pub loop-set-preserved : goal.loop-set-preserved
loop-set-preserved c = signals_step c.args.each.now c.args.sets.now.keys c.loop-set.state c.loop-set.signals c.push.new.self _ c.labels_of.result c.loop-set.invariant (sym c.in-Some.ensures.key) c.labels_of.ensures c.in_ok-push.ensures.ok
