-- The word is one of the table; the turn can go on; and the pass is a pass again.
use Rattle.std.proofs.Common.{◌≡◌, ◌<◌, Some, sym, ap, ◌∙◌, subst}
use Rattle.intern_core.specs.declared.seat.Seat.{Seat}
use Rattle.intern_core.specs.declared.seat.Phase.{Phase}
use Rattle.intern_core.specs.declared.seat.Phase.TheVariants.{Idle}
use Rattle.intern_core.specs.Turns.{next_place, turn_of, FitsTurn}
use Rattle.chain_rule.specs.declared.meaning.Setting.{Setting}
use Rattle.chain_rule.specs.Told.{MayBeginCall, Finds, IsOfferedWord, view_begun, seat_begun, phase_begun, offer_begun}
use Rattle.chain_rule.specs.Pacing.{FitsListWord}
use Rattle.chain_rule.specs.Passes.{Walker, IsPass}
use Rattle.chain_rule.proofs.Operations.{one_setting}
use Rattle.chain_rule.proofs.Passing.{begun_within, begun_fits, begun_word, can_go_on, still_pass, same_turn}
use Rattle.chain_rule.proofs.pass.advance.Goals as goal

pub act-found-requires-clause-word : goal.act-found-requires-clause-word
act-found-requires-clause-word g c =
    let key = c.args.table.now.setting in
    let setting : c.pass.inside.place.me.0.setting ≡ Some key = ap (λ (w : Walker g.row.M.Denot). w.view.setting) c.pass.view_is ∙ c.requires.own.1 in
    let inv = c.pass.invariant in
    let p = subst (λ (k : Setting g.row.M.Denot). IsPass g.M.Meaning.lawful g.M.Meaning.allowed g.M.Meaning.stands k c.pass.inside.place.me c.pass.inside.seat) (one_setting inv.0 key (sym inv.1 ∙ setting)) inv.2 in
    let seat_is : c.begin-seat.result ≡ seat_begun g.J.Beginning.begins g.J.Beginning.told c.pass.inside.seat =
    c.begin-seat.ensures g.J.Beginning.told c.requires.length ∙ ap (λ (b : Phase). seat_begun b g.J.Beginning.told c.pass.inside.seat) c.requires.begins in
    let may = λ (e : c.pass.inside.seat.phase ≡ Idle).
    subst (λ (w : Walker g.row.M.Denot). MayBeginCall g.M.Meaning.lawful g.M.Meaning.allowed g.M.Meaning.stands key w.view g.J.Beginning.begins g.J.Beginning.told) (sym c.pass.view_is)
    (c.requires.may (sym (ap (λ (w : Walker g.row.M.Denot). w.view.seat.phase) c.pass.view_is) ∙ ap (λ (s : Seat). s.phase) p.seat_is ∙ e)) in
    let low = begun_within g.M.Meaning.lawful g.M.Meaning.allowed g.M.Meaning.stands key c.pass.inside.place.me c.pass.inside.seat g.J.Beginning.begins g.J.Beginning.told p may in
    subst (λ n. n < c.args.table.now.table.shared.table_id.words) (sym (c.place-word.ensures ∙ ap (next_place key.shape) seat_is))
    (subst (λ n. next_place key.shape (seat_begun g.J.Beginning.begins g.J.Beginning.told c.pass.inside.seat) < n) (sym c.args.table.now.sized) low)

pub act-found-requires-clause-fit : goal.act-found-requires-clause-fit
act-found-requires-clause-fit g c =
    let key = c.args.table.now.setting in
    let setting : c.pass.inside.place.me.0.setting ≡ Some key = ap (λ (w : Walker g.row.M.Denot). w.view.setting) c.pass.view_is ∙ c.requires.own.1 in
    let inv = c.pass.invariant in
    let p = subst (λ (k : Setting g.row.M.Denot). IsPass g.M.Meaning.lawful g.M.Meaning.allowed g.M.Meaning.stands k c.pass.inside.place.me c.pass.inside.seat) (one_setting inv.0 key (sym inv.1 ∙ setting)) inv.2 in
    let seat_is : c.begin-seat.result ≡ seat_begun g.J.Beginning.begins g.J.Beginning.told c.pass.inside.seat =
    c.begin-seat.ensures g.J.Beginning.told c.requires.length ∙ ap (λ (b : Phase). seat_begun b g.J.Beginning.told c.pass.inside.seat) c.requires.begins in
    let may = λ (e : c.pass.inside.seat.phase ≡ Idle).
    subst (λ (w : Walker g.row.M.Denot). MayBeginCall g.M.Meaning.lawful g.M.Meaning.allowed g.M.Meaning.stands key w.view g.J.Beginning.begins g.J.Beginning.told) (sym c.pass.view_is)
    (c.requires.may (sym (ap (λ (w : Walker g.row.M.Denot). w.view.seat.phase) c.pass.view_is) ∙ ap (λ (s : Seat). s.phase) p.seat_is ∙ e)) in
    subst (λ (s : Seat). FitsListWord s.phase) (sym seat_is)
    (begun_fits g.M.Meaning.lawful g.M.Meaning.allowed g.M.Meaning.stands key c.pass.inside.place.me.0 g.J.Beginning.begins g.J.Beginning.told c.pass.inside.seat.phase p.paced.block may)

pub act-found-requires-clause-offered : goal.act-found-requires-clause-offered
act-found-requires-clause-offered g c =
    let key = c.args.table.now.setting in
    let setting : c.pass.inside.place.me.0.setting ≡ Some key = ap (λ (w : Walker g.row.M.Denot). w.view.setting) c.pass.view_is ∙ c.requires.own.1 in
    let inv = c.pass.invariant in
    let p = subst (λ (k : Setting g.row.M.Denot). IsPass g.M.Meaning.lawful g.M.Meaning.allowed g.M.Meaning.stands k c.pass.inside.place.me c.pass.inside.seat) (one_setting inv.0 key (sym inv.1 ∙ setting)) inv.2 in
    let seat_is : c.begin-seat.result ≡ seat_begun g.J.Beginning.begins g.J.Beginning.told c.pass.inside.seat =
    c.begin-seat.ensures g.J.Beginning.told c.requires.length ∙ ap (λ (b : Phase). seat_begun b g.J.Beginning.told c.pass.inside.seat) c.requires.begins in
    let view_seat : c.begin-seat.result ≡ seat_begun g.J.Beginning.begins g.J.Beginning.told c.pass.inside.place.me.0.seat = seat_is ∙ ap (seat_begun g.J.Beginning.begins g.J.Beginning.told) (sym p.seat_is) in
    let may = λ (e : c.pass.inside.place.me.0.seat.phase ≡ Idle).
    subst (λ (w : Walker g.row.M.Denot). MayBeginCall g.M.Meaning.lawful g.M.Meaning.allowed g.M.Meaning.stands key w.view g.J.Beginning.begins g.J.Beginning.told) (sym c.pass.view_is)
    (c.requires.may (sym (ap (λ (w : Walker g.row.M.Denot). w.view.seat.phase) c.pass.view_is) ∙ e)) in
    subst (λ (s : Seat). IsOfferedWord (view_begun g.J.Beginning.begins g.J.Beginning.told c.pass.inside.place.me.0).offer s.phase c.args.offered) (sym view_seat)
    (begun_word g.M.Meaning.lawful g.M.Meaning.allowed g.M.Meaning.stands key c.pass.inside.place.me.0 g.J.Beginning.begins g.J.Beginning.told c.pass.inside.place.me.0.seat.phase c.pass.inside.place.me.0.offer c.args.offered may
    (subst (λ (w : Walker g.row.M.Denot). IsOfferedWord w.view.offer w.view.seat.phase c.args.offered) (sym c.pass.view_is) c.requires.offered))

pub turned-pass-inside-requires-clause-go : goal.turned-pass-inside-requires-clause-go
turned-pass-inside-requires-clause-go g c =
    let key = c.args.table.now.setting in
    let setting : c.pass.inside.place.me.0.setting ≡ Some key = ap (λ (w : Walker g.row.M.Denot). w.view.setting) c.pass.view_is ∙ c.requires.own.1 in
    let inv = c.pass.invariant in
    let p = subst (λ (k : Setting g.row.M.Denot). IsPass g.M.Meaning.lawful g.M.Meaning.allowed g.M.Meaning.stands k c.pass.inside.place.me c.pass.inside.seat) (one_setting inv.0 key (sym inv.1 ∙ setting)) inv.2 in
    let seat_is : c.begin-seat.result ≡ seat_begun g.J.Beginning.begins g.J.Beginning.told c.pass.inside.seat =
    c.begin-seat.ensures g.J.Beginning.told c.requires.length ∙ ap (λ (b : Phase). seat_begun b g.J.Beginning.told c.pass.inside.seat) c.requires.begins in
    let view_seat : c.begin-seat.result ≡ seat_begun g.J.Beginning.begins g.J.Beginning.told c.pass.inside.place.me.0.seat = seat_is ∙ ap (seat_begun g.J.Beginning.begins g.J.Beginning.told) (sym p.seat_is) in
    let v = view_begun g.J.Beginning.begins g.J.Beginning.told c.pass.inside.place.me.0 in
    let t = c.act-found.ensures.turned in (
      v.offer,
      subst (λ (s : Seat). FitsTurn key.shape v.offer s.phase c.act-found.result) (sym view_seat)
          (can_go_on g.M.Meaning.lawful g.M.Meaning.allowed g.M.Meaning.stands key v c.place-word.result t.0 c.act-found.result c.act-found.new.place.me.0 t.1
          (c.place-word.ensures ∙ ap (next_place key.shape) view_seat)
          (subst (λ (s : Seat). Finds s.phase → c.act-found.result ≡ t.0) view_seat t.2)),
    )

pub invariant_of-pass : goal.invariant_of-pass
invariant_of-pass g c =
    let key = c.args.table.now.setting in
    let setting : c.pass.inside.place.me.0.setting ≡ Some key = ap (λ (w : Walker g.row.M.Denot). w.view.setting) c.pass.view_is ∙ c.requires.own.1 in
    let inv = c.pass.invariant in
    let p = subst (λ (k : Setting g.row.M.Denot). IsPass g.M.Meaning.lawful g.M.Meaning.allowed g.M.Meaning.stands k c.pass.inside.place.me c.pass.inside.seat) (one_setting inv.0 key (sym inv.1 ∙ setting)) inv.2 in
    let seat_is : c.begin-seat.result ≡ seat_begun g.J.Beginning.begins g.J.Beginning.told c.pass.inside.seat =
    c.begin-seat.ensures g.J.Beginning.told c.requires.length ∙ ap (λ (b : Phase). seat_begun b g.J.Beginning.told c.pass.inside.seat) c.requires.begins in
    let view_seat : c.begin-seat.result ≡ seat_begun g.J.Beginning.begins g.J.Beginning.told c.pass.inside.place.me.0.seat = seat_is ∙ ap (seat_begun g.J.Beginning.begins g.J.Beginning.told) (sym p.seat_is) in
    let v = view_begun g.J.Beginning.begins g.J.Beginning.told c.pass.inside.place.me.0 in
    let t = c.act-found.ensures.turned in
    let is : c.turned-pass-inside.result ≡ (turn_of key.shape v.offer v.seat t.0).seat =
    c.turned-pass-inside.ensures v.offer
    ∙ ap (λ (s : Seat). (turn_of key.shape v.offer s c.act-found.result).seat) view_seat
    ∙ same_turn key.shape v.offer v.seat.pass v.seat.refused v.seat.spare v.seat.marked v.seat.phase c.act-found.result t.0 (subst (λ (s : Seat). Finds s.phase → c.act-found.result ≡ t.0) view_seat t.2) in
    let whole = still_pass g.M.Meaning.lawful g.M.Meaning.allowed g.M.Meaning.stands key v c.place-word.result t.0 c.act-found.new.place.me c.turned-pass-inside.result t.1
    c.act-found.ensures.same.2 p.walks is (c.place-word.ensures ∙ ap (next_place key.shape) view_seat) in
    let kept : c.act-found.new.place.me.0.setting ≡ Some key = ap (λ w. w.setting) t.1.after ∙ setting in
    (key, kept, whole)

pub returns-clause-fits : goal.returns-clause-fits
returns-clause-fits g c =
    let key = c.args.table.now.setting in
    let setting : c.pass.inside.place.me.0.setting ≡ Some key = ap (λ (w : Walker g.row.M.Denot). w.view.setting) c.pass.view_is ∙ c.requires.own.1 in
    let inv = c.pass.invariant in
    let p = subst (λ (k : Setting g.row.M.Denot). IsPass g.M.Meaning.lawful g.M.Meaning.allowed g.M.Meaning.stands k c.pass.inside.place.me c.pass.inside.seat) (one_setting inv.0 key (sym inv.1 ∙ setting)) inv.2 in
    let seat_is : c.begin-seat.result ≡ seat_begun g.J.Beginning.begins g.J.Beginning.told c.pass.inside.seat =
    c.begin-seat.ensures g.J.Beginning.told c.requires.length ∙ ap (λ (b : Phase). seat_begun b g.J.Beginning.told c.pass.inside.seat) c.requires.begins in
    let view_seat : c.begin-seat.result ≡ seat_begun g.J.Beginning.begins g.J.Beginning.told c.pass.inside.place.me.0.seat = seat_is ∙ ap (seat_begun g.J.Beginning.begins g.J.Beginning.told) (sym p.seat_is) in
    let v = view_begun g.J.Beginning.begins g.J.Beginning.told c.pass.inside.place.me.0 in
    let t = c.act-found.ensures.turned in
    subst (λ (w : Walker g.row.M.Denot). FitsTurn key.shape (offer_begun g.J.Beginning.told w.view.seat.phase w.view.offer) (phase_begun g.J.Beginning.begins g.J.Beginning.told w.view.seat.phase) c.act-found.result) c.pass.view_is
    (can_go_on g.M.Meaning.lawful g.M.Meaning.allowed g.M.Meaning.stands key v c.place-word.result t.0 c.act-found.result c.act-found.new.place.me.0 t.1
    (c.place-word.ensures ∙ ap (next_place key.shape) view_seat)
    (subst (λ (s : Seat). Finds s.phase → c.act-found.result ≡ t.0) view_seat t.2))
