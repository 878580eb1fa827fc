-- The words stand for the number.
use Rattle.std.proofs.Common.{List, length, sym, ap, ◌∙◌, subst}
use Rattle.intern_core.specs.declared.history.EntryWords.{EntryWords}
use Rattle.chain_rule.specs.Told.{MayTell}
use Rattle.chain_rule.proofs.ListFinding.{claiming_tells}
use Rattle.chain_rule.proofs.listing.claim_told.Goals as goal

pub advance-requires-clause-length : goal.advance-requires-clause-length
advance-requires-clause-length g c = ap (λ (l : List EntryWords). length l) c.requires.told.1 ∙ sym c.count.ensures

pub advance-requires-clause-tells : goal.advance-requires-clause-tells
advance-requires-clause-tells g c =
    subst (λ l. MayTell g.M.Meaning.lawful g.M.Meaning.allowed g.M.Meaning.stands c.args.table.now.setting c.args.pass.now.view.front l c.args.pass.now.view.seat.phase) (sym c.requires.told.1)
    (claiming_tells g.M.Meaning.lawful g.M.Meaning.allowed g.M.Meaning.stands c.args.table.now.setting c.args.pass.now.view.front c.args.words.now c.args.number c.args.pass.now.view.seat.phase
    c.requires.next c.requires.short c.requires.stands)
