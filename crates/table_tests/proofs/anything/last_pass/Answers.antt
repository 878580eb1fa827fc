use Rattle.table_tests.proofs.LastPass.{last_is_new, others_are_new, idle, mine}
use Rattle.table_tests.proofs.anything.last_pass.Goals as goal

pub returns-clause-idle : goal.returns-clause-idle
returns-clause-idle c =
    idle c.args.table.now.table_id c.args.table.now.setting c.pop.result (last_is_new c.args.table.now.table_id c.args.table.now.setting _ c.pop.new.self.items c.pop.result c.pop.ensures.items c.requires)

pub returns-clause-mine : goal.returns-clause-mine
returns-clause-mine c =
    mine c.args.table.now.table_id c.args.table.now.setting c.pop.result (last_is_new c.args.table.now.table_id c.args.table.now.setting _ c.pop.new.self.items c.pop.result c.pop.ensures.items c.requires)

pub returns-clause-rest : goal.returns-clause-rest
returns-clause-rest c = others_are_new c.args.table.now.table_id c.args.table.now.setting _ c.pop.new.self.items c.pop.result c.pop.ensures.items c.requires
