-- The link is one that the new front allows.
use Rattle.std.proofs.Common.{ap, ◌∙◌}
use Rattle.intern_core.specs.declared.seat.Seat.{Seat}
use Rattle.chain_rule.specs.Passes.{Board}
use Rattle.chain_rule.specs.Stepping.{ask_phase, asking}
use Rattle.chain_rule.proofs.Finding.{load_found, load_took, linking_loads}
use Rattle.chain_rule.proofs.Finding.{untold_tells, untold_word, linking_untold}
use Rattle.chain_rule.proofs.stepping.step_load_link.Goals as goal

pub returns-clause-step : goal.returns-clause-step
returns-clause-step g c =
    let u = c.args.pass.now.view in
    let t = c.advance-found.ensures.turned in
    load_took g.M.Meaning.lawful g.M.Meaning.allowed g.M.Meaning.stands c.args.table.now.setting c.table.inside.desk.setting (ask_phase c.args.key u.seat) c.first_phase-begins.result u
    c.advance-found.new.pass.view t.0 c.advance-found.result c.number_of.result (ap (λ (b : Board g.row.M.Denot). b.setting) c.table.view_is)
    (c.first_phase-begins.ensures ∙ ap (λ (s : Seat). ask_phase c.args.key s) c.seat.ensures.same) t.1 t.2
    (linking_loads c.args.key (asking c.args.key u.seat).phase c.requires.next) c.number_of.ensures

pub returns-clause-word : goal.returns-clause-word
returns-clause-word g c =
    let u = c.args.pass.now.view in
    let t = c.advance-found.ensures.turned in
    load_found g.M.Meaning.lawful g.M.Meaning.allowed g.M.Meaning.stands c.args.table.now.setting c.table.inside.desk.setting (ask_phase c.args.key u.seat) c.first_phase-begins.result u
    c.advance-found.new.pass.view t.0 c.advance-found.result c.number_of.result (ap (λ (b : Board g.row.M.Denot). b.setting) c.table.view_is)
    (c.first_phase-begins.ensures ∙ ap (λ (s : Seat). ask_phase c.args.key s) c.seat.ensures.same) t.1 t.2
    (linking_loads c.args.key (asking c.args.key u.seat).phase c.requires.next) c.number_of.ensures

pub advance-found-requires-clause-tells : goal.advance-found-requires-clause-tells
advance-found-requires-clause-tells g c =
    untold_tells g.M.Meaning.lawful g.M.Meaning.allowed g.M.Meaning.stands c.table.inside.desk.setting c.args.pass.now.view.front c.args.pass.now.view.seat.phase (linking_untold c.args.key (ask_phase c.args.key c.args.pass.now.view.seat) c.args.pass.now.view.seat.phase c.requires.next)

pub advance-found-requires-clause-offered : goal.advance-found-requires-clause-offered
advance-found-requires-clause-offered g c = untold_word c.args.pass.now.view.offer c.args.pass.now.view.seat.phase 0 (linking_untold c.args.key (ask_phase c.args.key c.args.pass.now.view.seat) c.args.pass.now.view.seat.phase c.requires.next)
