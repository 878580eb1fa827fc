use Rattle.std.proofs.Common.{◌≡◌, ◌<◌, sym, ap, ◌∙◌, subst, length, slice_get, slice_set, Some}
use Rattle.intern_core.specs.declared.seat.SeatWithOffer.{SeatWithOffer}
use Rattle.intern_core.specs.Turns.{seat}
use Rattle.intern_core.specs.Machine.{Machine, with_offer, begun, IsKept}
use Rattle.intern_core.specs.Nexts.{MayBegin}
use Rattle.intern_core.proofs.Machines.{machine_of, kept_begun, begun_is, same_there, read_there}
use Rattle.intern_core.proofs.machine.Core.begin.Goals as goal

pub invariant_of-self : goal.invariant_of-self
invariant_of-self c =
    let m : Machine = record { shape = c.self.inside.shape; words = c.self.inside.words.items; seats = c.self.inside.seats.items; history = c.self.inside.history.items } in
    let s = c.index_mut.result.now in
    let low : c.args.i < length m.seats = subst (λ (n : Machine). c.args.i < length n.seats) (sym c.self.view_is) c.requires.low in
    let at : slice_get m.seats c.args.i ≡ Some s = read_there m.seats c.args.i s low c.index_mut.ensures.value in
    let read : slice_get m.seats c.args.i ≡ Some c.index.result.now = read_there m.seats c.args.i c.index.result.now low c.index.ensures in
    let same : c.index.result.now ≡ s = same_there m.seats c.args.i c.index.result.now s read at in
    let now = c.with_phase.ensures ∙ ap (λ (x : SeatWithOffer). seat x.seat.pass x.seat.refused x.seat.spare x.seat.marked c.args.phase) same in
    let may : MayBegin m s c.args.phase s.offer = subst (λ (n : Machine). MayBegin n s c.args.phase s.offer) (sym c.self.view_is)
    (c.requires.may s (ap (λ (n : Machine). slice_get n.seats c.args.i) (sym c.self.view_is) ∙ at)) in
    subst (λ (n : Machine). IsKept n) (sym (begun_is m c.args.i s c.args.phase s.offer c.with_phase.result now)) (kept_begun m c.self.invariant c.args.i s c.args.phase s.offer at may)

pub returns : goal.returns
returns c = λ s e.
    let m : Machine = record { shape = c.self.inside.shape; words = c.self.inside.words.items; seats = c.self.inside.seats.items; history = c.self.inside.history.items } in
    let s0 = c.index_mut.result.now in
    let low : c.args.i < length m.seats = subst (λ (n : Machine). c.args.i < length n.seats) (sym c.self.view_is) c.requires.low in
    let at : slice_get m.seats c.args.i ≡ Some s0 = read_there m.seats c.args.i s0 low c.index_mut.ensures.value in
    let read : slice_get m.seats c.args.i ≡ Some c.index.result.now = read_there m.seats c.args.i c.index.result.now low c.index.ensures in
    let there : slice_get m.seats c.args.i ≡ Some s = ap (λ (n : Machine). slice_get n.seats c.args.i) c.self.view_is ∙ e in
    let same : c.index.result.now ≡ s = same_there m.seats c.args.i c.index.result.now s read there in
    let own : s0 ≡ s = same_there m.seats c.args.i s0 s at there in
    let now = c.with_phase.ensures ∙ ap (λ (x : SeatWithOffer). seat x.seat.pass x.seat.refused x.seat.spare x.seat.marked c.args.phase) same in
    subst (λ (n : Machine). machine_of m.shape m.words (slice_set m.seats c.args.i (with_offer c.with_phase.result s0.offer)) m.history ≡ begun n c.args.i s c.args.phase s.offer) c.self.view_is
    (ap (λ (x : SeatWithOffer). machine_of m.shape m.words (slice_set m.seats c.args.i (with_offer c.with_phase.result x.offer)) m.history) own ∙ begun_is m c.args.i s c.args.phase s.offer c.with_phase.result now)
