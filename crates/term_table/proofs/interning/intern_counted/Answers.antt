-- What `Full` says follows from the legality of the front.
use Rattle.term_table.proofs.Calling.{was_full, was_known}
use Rattle.term_table.proofs.interning.intern_counted.Goals as goal

pub returns-clause-full : goal.returns-clause-full
returns-clause-full g c = was_full c.args.table.now.setting.shape c.args.key c.args.pass.now.view c.walk-answer.new.pass.view c.walk-answer.result c.walk-answer.ensures.answered
    (c.valid.ensures c.args.table.now.setting c.walk-answer.ensures.own.1).legal

pub returns-clause-stays : goal.returns-clause-stays
returns-clause-stays g c = c.valid.ensures c.args.table.now.setting c.walk-answer.ensures.own.1

pub returns-clause-known : goal.returns-clause-known
returns-clause-known g c = was_known c.args.table.now.setting.shape c.args.key c.args.pass.now.view c.walk-answer.new.pass.view c.walk-answer.result c.walk-answer.ensures.answered
    (c.valid.ensures c.args.table.now.setting c.walk-answer.ensures.own.1).legal
