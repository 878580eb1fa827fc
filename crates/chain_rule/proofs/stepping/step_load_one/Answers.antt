-- No words are told, and none is stored.
use Rattle.chain_rule.proofs.Finding.{untold_tells, untold_word, one_untold}
use Rattle.intern_core.specs.declared.seat.Phase.TheVariants.{LookingOne}
use Rattle.chain_rule.proofs.stepping.step_load_one.Goals as goal

pub advance-found-requires-clause-tells : goal.advance-found-requires-clause-tells
advance-found-requires-clause-tells g c =
    untold_tells g.M.Meaning.lawful g.M.Meaning.allowed g.M.Meaning.stands c.table.inside.desk.setting c.args.pass.now.view.front c.args.pass.now.view.seat.phase (one_untold c.args.number (LookingOne c.args.number) c.args.pass.now.view.seat.phase c.requires.next)

pub advance-found-requires-clause-offered : goal.advance-found-requires-clause-offered
advance-found-requires-clause-offered g c = untold_word c.args.pass.now.view.offer c.args.pass.now.view.seat.phase 0 (one_untold c.args.number (LookingOne c.args.number) c.args.pass.now.view.seat.phase c.requires.next)
