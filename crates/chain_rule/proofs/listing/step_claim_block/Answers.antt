-- A block that isn't claimed has no room.
use Rattle.std.proofs.Common.{◌+◌, nat_le, length, sym, ap, ◌∙◌, subst}
use Rattle.chain_rule.specs.declared.meaning.Setting.{Setting}
use Rattle.chain_rule.specs.Passes.{Board}
use Rattle.chain_rule.specs.Stepping.{LacksRoom}
use Rattle.chain_rule.proofs.ListFinding.{claim_lacks}
use Rattle.chain_rule.proofs.listing.step_claim_block.Goals as goal

pub returns-clause-room : goal.returns-clause-room
returns-clause-room g c = λ over.
    let w = c.claim_told-found.new.pass.view in
    subst (λ (k : Setting g.row.M.Denot). LacksRoom k.shape c.args.words.now w.front) (ap (λ (b : Board g.row.M.Denot). b.setting) c.table.view_is)
    (claim_lacks g.M.Meaning.lawful g.M.Meaning.allowed g.M.Meaning.stands c.table.inside.desk.setting c.args.words.now c.args.pass.now.view w c.claim_told-found.result c.args.number
    c.claim_told-found.ensures.step c.requires.next (ap (nat_le (c.claim_told-found.result + length c.args.words.now)) (sym c.from.ensures) ∙ over))
