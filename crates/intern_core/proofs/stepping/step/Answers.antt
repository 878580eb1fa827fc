use Rattle.std.proofs.Common.{◌≡◌, true, sym, subst, rules, slice_get, Some}
use Rattle.intern_core.specs.declared.seat.SeatWithOffer.{SeatWithOffer}
use Rattle.intern_core.specs.declared.seat.Phase.TheVariants.{FindingEntry}
use Rattle.intern_core.specs.History.{listing_in}
use Rattle.intern_core.specs.Machine.{is_idle, is_longer}
use Rattle.intern_core.specs.Nexts.{MayBegin}
use Rattle.intern_core.proofs.Machines.{got_low, same_there}
use Rattle.intern_core.proofs.Happening.{find_may, idle_is}
use Rattle.intern_core.proofs.stepping.step.Goals as goal

pub begin-requires-in-FetchEntry-clause-may : goal.begin-requires-in-FetchEntry-clause-may
begin-requires-in-FetchEntry-clause-may c = λ s e.
    let s0 = c.in-Some.place.now in
    let at : slice_get c.args.core.now.seats c.args.event.now.seat ≡ Some s0 = sym c.in-Some.ensures in
    let own : s0 ≡ s = same_there c.args.core.now.seats c.args.event.now.seat s0 s at e in
    let idle : is_idle s0.seat.phase ≡ true = search rules in
    let long : is_longer c.in-FetchEntry.at (listing_in c.args.core.now.history c.in-FetchEntry.number) ≡ true = search rules in
    subst (λ (x : SeatWithOffer). MayBegin c.args.core.now x (FindingEntry c.in-FetchEntry.number c.in-FetchEntry.at) x.offer) own
    (find_may c.args.core.now c.kept.ensures s0 c.in-FetchEntry.number c.in-FetchEntry.at (idle_is s0.seat.phase idle) long)

pub begin_offer-requires-clause-low : goal.begin_offer-requires-clause-low
begin_offer-requires-clause-low c = got_low c.args.core.now.seats c.args.event.now.seat c.in-Some.place.now (sym c.in-Some.ensures)

pub turn-requires : goal.turn-requires
turn-requires c = got_low c.args.core.now.seats c.args.event.now.seat c.in-Some.place.now (sym c.in-Some.ensures)
