-- The pass stays what it is.
use Rattle.std.proofs.Common.{ap, sym, ◌∙◌, subst, arith}
use Rattle.chain_rule.specs.Passes.{Walker, IsPassOf}
use Rattle.chain_rule.proofs.Splitting.{splits_note}
use Rattle.chain_rule.proofs.noting.cut_off.Goals as goal

pub split_seat-requires : goal.split_seat-requires
split_seat-requires g c = (
  ap (λ (w : Walker g.row.M.Denot). w.table_id) c.pass.view_is ∙ c.requires.own.0,
  (let n = c.args.table.now.sized in omega arith),
  splits_note g.M.Meaning.lawful g.M.Meaning.allowed g.M.Meaning.stands c.args.table.now.table.shared.key c.pass.inside.place.id c.pass.inside.place.me.0,
)

pub invariant_of-pass : goal.invariant_of-pass
invariant_of-pass g c =
    subst (λ me. IsPassOf g.M.Meaning.lawful g.M.Meaning.allowed g.M.Meaning.stands me c.pass.inside.seat) (sym c.split_seat.ensures.2) c.pass.invariant
