use Rattle.std.proofs.Common.{◌≡◌, ◌<◌, [], ◌++◌, List, sym, ap, ◌∙◌, subst, arith, length, slice_get, slice_set, append-nil, Some}
use Rattle.intern_core.specs.declared.history.Entry.{Entry}
use Rattle.intern_core.specs.declared.seat.SeatWithOffer.{SeatWithOffer}
use Rattle.intern_core.specs.Machine.{Machine, with_offer, taken, next_turn}
use Rattle.intern_core.specs.Nexts.{IsPut}
use Rattle.intern_core.proofs.Machines.{machine_of, kept_put, put_is, put_low, same_there, read_there}
use Rattle.intern_core.proofs.machine.Core.put.Goals as goal

pub index_mut-requires : goal.index_mut-requires
index_mut-requires c =
    let m : Machine = record { shape = c.self.inside.shape; words = c.self.inside.words.items; seats = c.self.inside.seats.items; history = c.self.inside.history.items } in
    let low : c.args.i < length m.seats = subst (λ (n : Machine). c.args.i < length n.seats) (sym c.self.view_is) c.requires.low in
    let next : (s : SeatWithOffer) → slice_get m.seats c.args.i ≡ Some s → IsPut m s c.args.at c.args.word c.args.seat [] =
    subst (λ (n : Machine). (s : SeatWithOffer) → slice_get n.seats c.args.i ≡ Some s → IsPut n s c.args.at c.args.word c.args.seat []) (sym c.self.view_is) c.requires.next in
    let room = put_low m c.self.invariant c.args.i c.args.at c.args.word c.args.seat [] low next in
    omega arith

pub invariant_of-self : goal.invariant_of-self
invariant_of-self c =
    let m : Machine = record { shape = c.self.inside.shape; words = c.self.inside.words.items; seats = c.self.inside.seats.items; history = c.self.inside.history.items } in
    let low : c.args.i < length m.seats = subst (λ (n : Machine). c.args.i < length n.seats) (sym c.self.view_is) c.requires.low in
    let next : (s : SeatWithOffer) → slice_get m.seats c.args.i ≡ Some s → IsPut m s c.args.at c.args.word c.args.seat [] =
    subst (λ (n : Machine). (s : SeatWithOffer) → slice_get n.seats c.args.i ≡ Some s → IsPut n s c.args.at c.args.word c.args.seat []) (sym c.self.view_is) c.requires.next in
    let s = c.index_mut-2.result.now in
    let at : slice_get m.seats c.args.i ≡ Some s = read_there m.seats c.args.i s low c.index_mut-2.ensures.value in
    kept_put m c.self.invariant c.args.i s c.args.at c.args.word c.args.seat at (next s at)

pub returns : goal.returns
returns c = λ s e.
    let m : Machine = record { shape = c.self.inside.shape; words = c.self.inside.words.items; seats = c.self.inside.seats.items; history = c.self.inside.history.items } in
    let low : c.args.i < length m.seats = subst (λ (n : Machine). c.args.i < length n.seats) (sym c.self.view_is) c.requires.low in
    let next : (s : SeatWithOffer) → slice_get m.seats c.args.i ≡ Some s → IsPut m s c.args.at c.args.word c.args.seat [] =
    subst (λ (n : Machine). (s : SeatWithOffer) → slice_get n.seats c.args.i ≡ Some s → IsPut n s c.args.at c.args.word c.args.seat []) (sym c.self.view_is) c.requires.next in
    let s0 = c.index_mut-2.result.now in
    let at : slice_get m.seats c.args.i ≡ Some s0 = read_there m.seats c.args.i s0 low c.index_mut-2.ensures.value in
    let there : slice_get m.seats c.args.i ≡ Some s = ap (λ (n : Machine). slice_get n.seats c.args.i) c.self.view_is ∙ e in
    let own : s0 ≡ s = same_there m.seats c.args.i s0 s at there in
    let more : m.history ≡ m.history ++ [] = sym (append-nil m.history) in
    subst (λ (n : Machine). machine_of m.shape (slice_set m.words c.args.at c.args.word) (slice_set m.seats c.args.i (with_offer c.args.seat s0.offer)) m.history ≡ taken n c.args.i s (next_turn n s)) c.self.view_is
    (ap (λ (x : SeatWithOffer). machine_of m.shape (slice_set m.words c.args.at c.args.word) (slice_set m.seats c.args.i (with_offer c.args.seat x.offer)) m.history) own ∙ ap (λ (l : List Entry). machine_of m.shape (slice_set m.words c.args.at c.args.word) (slice_set m.seats c.args.i (with_offer c.args.seat s.offer)) l) more
    ∙ put_is m c.args.i s c.args.at c.args.word c.args.seat [] (next s there))
