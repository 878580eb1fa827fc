-- No words are told, and none is stored.
use Rattle.chain_rule.proofs.Finding.{untold_tells, untold_word, swapping_untold}
use Rattle.chain_rule.proofs.stepping.step_swap_link.Goals as goal

pub advance-found-requires-clause-tells : goal.advance-found-requires-clause-tells
advance-found-requires-clause-tells g c =
    untold_tells g.M.Meaning.lawful g.M.Meaning.allowed g.M.Meaning.stands c.table.inside.desk.setting c.args.pass.now.view.front c.args.pass.now.view.seat.phase (swapping_untold c.args.key c.args.pass.now.view.seat.phase c.requires.next)

pub advance-found-requires-clause-offered : goal.advance-found-requires-clause-offered
advance-found-requires-clause-offered g c = untold_word c.args.pass.now.view.offer c.args.pass.now.view.seat.phase 0 (swapping_untold c.args.key c.args.pass.now.view.seat.phase c.requires.next)
