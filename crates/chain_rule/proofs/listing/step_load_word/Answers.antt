-- The word is one of the list.
use Rattle.std.proofs.Common.{ap}
use Rattle.chain_rule.specs.Passes.{Board}
use Rattle.chain_rule.proofs.Finding.{found_took}
use Rattle.chain_rule.proofs.ListFinding.{read_word, reading_finds}
use Rattle.chain_rule.proofs.listing.step_load_word.Goals as goal

pub returns-clause-word : goal.returns-clause-word
returns-clause-word g c =
    let key = c.args.table.now.setting in
    let u = c.args.pass.now.view in
    let w = c.advance-found.new.pass.view in
    let t = c.advance-found.ensures.turned in
    read_word g.M.Meaning.lawful g.M.Meaning.allowed g.M.Meaning.stands key u w c.advance-found.result c.args.number c.args.at
    (found_took g.M.Meaning.lawful g.M.Meaning.allowed g.M.Meaning.stands key c.table.inside.desk.setting u w t.0 c.advance-found.result (ap (λ (b : Board g.row.M.Denot). b.setting) c.table.view_is) t.1 t.2
    (reading_finds c.args.number c.args.at u.seat.phase c.requires.next)) c.requires.next
