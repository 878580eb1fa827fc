-- No words are told, and none is stored.
use Rattle.chain_rule.proofs.Finding.{untold_tells, untold_word, storing_one_untold}
use Rattle.chain_rule.specs.Stepping.{ask_phase}
use Rattle.chain_rule.proofs.stepping.step_store_one.Goals as goal

pub advance-requires-clause-tells : goal.advance-requires-clause-tells
advance-requires-clause-tells g c =
    untold_tells g.M.Meaning.lawful g.M.Meaning.allowed g.M.Meaning.stands c.table.inside.desk.setting c.args.pass.now.view.front c.args.pass.now.view.seat.phase (storing_one_untold c.args.key (ask_phase c.args.key c.args.pass.now.view.seat) c.args.pass.now.view.seat.phase c.requires.next)

pub advance-requires-clause-offered : goal.advance-requires-clause-offered
advance-requires-clause-offered g c = untold_word c.args.pass.now.view.offer c.args.pass.now.view.seat.phase 0 (storing_one_untold c.args.key (ask_phase c.args.key c.args.pass.now.view.seat) c.args.pass.now.view.seat.phase c.requires.next)
