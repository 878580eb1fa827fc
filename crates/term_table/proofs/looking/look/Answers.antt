-- The two words of the number.
use Rattle.term_table.proofs.Calling.{looks_tell}
use Rattle.term_table.proofs.looking.look.Goals as goal

pub returns-clause-key : goal.returns-clause-key
returns-clause-key g c =
    looks_tell g.M.Meaning.lawful g.M.Meaning.allowed g.M.Meaning.stands c.args.table.now.setting c.args.pass.now.view c.step_load_one-one.new.pass.view
    c.step_load_two-two.new.pass.view c.args.number c.step_load_one-one.result c.step_load_two-two.result c.requires.idle c.step_load_one-one.ensures.step c.step_load_two-two.ensures.step
