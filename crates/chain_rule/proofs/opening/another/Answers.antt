-- Pass 0 stays a pass, and the new one is one.
use Rattle.std.proofs.Common.{◌<◌, ap, sym, ◌∙◌, subst, arith, refl, Some}
use Rattle.chain_rule.specs.declared.meaning.Setting.{Setting}
use Rattle.chain_rule.specs.Passes.{Walker, IsPassOf}
use Rattle.chain_rule.specs.Splits.{newcomer}
use Rattle.std.proofs.Common.{false, None}
use Rattle.intern_core.specs.Turns.{seat}
use Rattle.intern_core.specs.declared.seat.Phase.TheVariants.{Idle}
use Rattle.chain_rule.proofs.Splitting.{splits_pass}
use Rattle.chain_rule.proofs.Passing.{fresh_pass, gives_pass}
use Rattle.chain_rule.proofs.opening.another.Goals as goal

pub split_seat-place-requires : goal.split_seat-place-requires
split_seat-place-requires g c =
    let own = c.requires.own in
    let view = c.first.view_is in (
      ap (λ (w : Walker g.row.M.Denot). w.table_id) view ∙ own.0,
      (let n = c.args.table.now.sized in omega arith),
      splits_pass g.M.Meaning.lawful g.M.Meaning.allowed g.M.Meaning.stands c.args.table.now.table.shared.key c.first.inside.place.id c.first.inside.place.me.0 c.first.invariant.2.walks
          (ap (λ (w : Walker g.row.M.Denot). w.view.setting) view ∙ own.1 ∙ ap (λ (k : Setting g.row.M.Denot). Some k) (sym c.args.table.now.told))
          (ap (λ (w : Walker g.row.M.Denot). w.view.seat.pass) view ∙ c.requires.first)
          (let e = ap (λ (w : Walker g.row.M.Denot). w.view.made) view in
          let n = c.requires.number in
          let low : c.first.inside.place.me.0.made < c.args.table.now.setting.shape.passes = omega arith in
          subst (λ (k : Setting g.row.M.Denot). c.first.inside.place.me.0.made < k.shape.passes) (sym c.args.table.now.told) low),
    )

pub invariant_of-first : goal.invariant_of-first
invariant_of-first g c =
    subst (λ me. IsPassOf g.M.Meaning.lawful g.M.Meaning.allowed g.M.Meaning.stands me c.first.inside.seat) (sym c.split_seat-place.ensures.2)
    (gives_pass g.M.Meaning.lawful g.M.Meaning.allowed g.M.Meaning.stands c.first.inside.place.me c.first.inside.seat c.first.invariant)

pub invariant_of-result : goal.invariant_of-result
invariant_of-result g c =
    let inv = c.first.invariant in
    subst (λ me. IsPassOf g.M.Meaning.lawful g.M.Meaning.allowed g.M.Meaning.stands me c.idle_seat.result) (sym c.split_seat-place.ensures.4)
    (fresh_pass g.M.Meaning.lawful g.M.Meaning.allowed g.M.Meaning.stands inv.0 (newcomer c.first.inside.place.me.0) c.args.number c.idle_seat.result inv.2.ranges refl inv.1 refl refl
    (ap (λ n. seat n None 0 false Idle) (ap (λ (w : Walker g.row.M.Denot). w.view.made) c.first.view_is ∙ sym c.requires.number.0)) c.idle_seat.ensures)
