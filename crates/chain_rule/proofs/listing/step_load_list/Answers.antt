-- The list word is one that the new front allows.
use Rattle.std.proofs.Common.{ap, refl, subst}
use Rattle.chain_rule.specs.Passes.{Board}
use Rattle.chain_rule.specs.Stepping.{list_phase, MayFind}
use Rattle.chain_rule.proofs.Finding.{load_found, load_took}
use Rattle.chain_rule.proofs.ListFinding.{list_loads, list_place}
use Rattle.chain_rule.proofs.listing.step_load_list.Goals as goal

pub returns-clause-step : goal.returns-clause-step
returns-clause-step g c =
    let u = c.args.pass.now.view in
    let t = c.advance-found.ensures.turned in
    load_took g.M.Meaning.lawful g.M.Meaning.allowed g.M.Meaning.stands c.args.table.now.setting c.table.inside.desk.setting (list_phase c.args.number c.args.begins) c.list_phase-phase.result u
    c.advance-found.new.pass.view t.0 c.advance-found.result c.advance-found.result (ap (λ (b : Board g.row.M.Denot). b.setting) c.table.view_is)
    c.list_phase-phase.ensures t.1 t.2 (list_loads c.args.number c.args.begins u.seat.phase c.requires.idle) refl

pub returns-clause-word : goal.returns-clause-word
returns-clause-word g c =
    let key = c.args.table.now.setting in
    let u = c.args.pass.now.view in
    let w = c.advance-found.new.pass.view in
    let t = c.advance-found.ensures.turned in
    subst (λ n. MayFind key.shape w.front n c.advance-found.result) (list_place key.shape u.seat.spare c.args.number c.args.begins u.seat.phase c.requires.idle)
    (load_found g.M.Meaning.lawful g.M.Meaning.allowed g.M.Meaning.stands key c.table.inside.desk.setting (list_phase c.args.number c.args.begins) c.list_phase-phase.result u w t.0 c.advance-found.result
    c.advance-found.result (ap (λ (b : Board g.row.M.Denot). b.setting) c.table.view_is) c.list_phase-phase.ensures t.1 t.2 (list_loads c.args.number c.args.begins u.seat.phase c.requires.idle) refl)
