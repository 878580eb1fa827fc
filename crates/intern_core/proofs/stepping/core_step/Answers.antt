use Rattle.intern_core.proofs.Happening.{entry_of_ok}
use Rattle.intern_core.proofs.stepping.core_step.Goals as goal

pub returns-clause-entry : goal.returns-clause-entry
returns-clause-entry c = entry_of_ok c.args.core.now c.step.new.core c.args.event.now c.kept.ensures c.step.result c.step.ensures.ok
