-- The word is one that the new front allows.
use Rattle.std.proofs.Common.{ap, refl, subst}
use Rattle.intern_core.specs.declared.seat.Phase.TheVariants.{Idle}
use Rattle.chain_rule.specs.Passes.{Board}
use Rattle.chain_rule.specs.Stepping.{MayFind}
use Rattle.chain_rule.proofs.Finding.{load_found, two_loads_begun, two_place}
use Rattle.chain_rule.proofs.Finding.{untold_tells, untold_word, two_untold}
use Rattle.chain_rule.proofs.stepping.step_load_two.Goals as goal

pub returns-clause-word : goal.returns-clause-word
returns-clause-word g c =
    let key = c.args.table.now.setting in
    let u = c.args.pass.now.view in
    let w = c.advance-found.new.pass.view in
    let t = c.advance-found.ensures.turned in
    subst (λ n. MayFind key.shape w.front n c.advance-found.result) (two_place key.shape c.args.number u.seat.spare u.seat.phase c.requires.next)
    (load_found g.M.Meaning.lawful g.M.Meaning.allowed g.M.Meaning.stands key c.table.inside.desk.setting Idle Idle u w t.0 c.advance-found.result c.advance-found.result
    (ap (λ (b : Board g.row.M.Denot). b.setting) c.table.view_is) refl t.1 t.2 (two_loads_begun c.args.number u.seat.phase c.requires.next) refl)

pub advance-found-requires-clause-tells : goal.advance-found-requires-clause-tells
advance-found-requires-clause-tells g c =
    untold_tells g.M.Meaning.lawful g.M.Meaning.allowed g.M.Meaning.stands c.table.inside.desk.setting c.args.pass.now.view.front c.args.pass.now.view.seat.phase (two_untold c.args.number c.args.pass.now.view.seat.phase c.requires.next)

pub advance-found-requires-clause-offered : goal.advance-found-requires-clause-offered
advance-found-requires-clause-offered g c = untold_word c.args.pass.now.view.offer c.args.pass.now.view.seat.phase 0 (two_untold c.args.number c.args.pass.now.view.seat.phase c.requires.next)
