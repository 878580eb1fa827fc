-- The note gives way, and the pass stays what it is.
use Rattle.std.proofs.Common.{ap, sym, ◌∙◌, subst, arith}
use Rattle.chain_rule.specs.Passes.{Walker, Noted, IsPassOf}
use Rattle.chain_rule.proofs.Splitting.{joins_note}
use Rattle.chain_rule.proofs.Passing.{meets_pass}
use Rattle.chain_rule.proofs.noting.take_in.Goals as goal

pub join_seat-requires : goal.join_seat-requires
join_seat-requires g c = (
  ap (λ (w : Walker g.row.M.Denot). w.table_id) c.pass.view_is ∙ c.requires.own.0,
  ap (λ (n : Noted). n.table_id) c.note.view_is ∙ c.requires.note,
  c.note.invariant.0,
  (let n = c.args.table.now.sized in omega arith),
  joins_note g.M.Meaning.lawful g.M.Meaning.allowed g.M.Meaning.stands c.args.table.now.table.shared.key c.pass.inside.place.id c.note.inside.place.id
      c.pass.inside.place.me.0 c.note.inside.place.me.0 c.pass.invariant.2.walks c.note.invariant.1,
)

pub invariant_of-pass : goal.invariant_of-pass
invariant_of-pass g c =
    subst (λ me. IsPassOf g.M.Meaning.lawful g.M.Meaning.allowed g.M.Meaning.stands me c.pass.inside.seat) (sym c.join_seat.ensures.2)
    (meets_pass g.M.Meaning.lawful g.M.Meaning.allowed g.M.Meaning.stands c.pass.inside.place.me c.note.inside.place.me.0 c.pass.inside.seat c.pass.invariant)
