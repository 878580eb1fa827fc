use Rattle.std.proofs.Common.{◌≡◌, ◌<◌, [], ◌∷◌, ◌++◌, List, sym, ap, ◌∙◌, subst, arith, rules, length, slice_get, slice_set, Some}
use Rattle.intern_core.specs.declared.history.Entry.{Entry}
use Rattle.intern_core.specs.declared.seat.SeatWithOffer.{SeatWithOffer}
use Rattle.intern_core.specs.Machine.{Machine, with_offer, taken, next_turn, IsKept}
use Rattle.intern_core.specs.Nexts.{IsPut}
use Rattle.intern_core.proofs.Machines.{machine_of, kept_made, put_is, put_low, same_there, read_there}
use Rattle.intern_core.proofs.machine.Core.put_with.Goals as goal

pub index_mut-requires : goal.index_mut-requires
index_mut-requires c =
    let m : Machine = record { shape = c.self.inside.shape; words = c.self.inside.words.items; seats = c.self.inside.seats.items; history = c.self.inside.history.items } in
    let low : c.args.i < length m.seats = subst (λ (n : Machine). c.args.i < length n.seats) (sym c.self.view_is) c.requires.low in
    let next : (s : SeatWithOffer) → slice_get m.seats c.args.i ≡ Some s → IsPut m s c.args.at c.args.word c.args.seat (c.args.entry ∷ []) =
    subst (λ (n : Machine). (s : SeatWithOffer) → slice_get n.seats c.args.i ≡ Some s → IsPut n s c.args.at c.args.word c.args.seat (c.args.entry ∷ [])) (sym c.self.view_is) c.requires.next in
    let room = put_low m c.self.invariant c.args.i c.args.at c.args.word c.args.seat (c.args.entry ∷ []) low next in
    omega arith

pub invariant_of-self-2 : goal.invariant_of-self-2
invariant_of-self-2 c =
    let m : Machine = record { shape = c.self.inside.shape; words = c.self.inside.words.items; seats = c.self.inside.seats.items; history = c.self.inside.history.items } in
    let low : c.args.i < length m.seats = subst (λ (n : Machine). c.args.i < length n.seats) (sym c.self.view_is) c.requires.low in
    let next : (s : SeatWithOffer) → slice_get m.seats c.args.i ≡ Some s → IsPut m s c.args.at c.args.word c.args.seat (c.args.entry ∷ []) =
    subst (λ (n : Machine). (s : SeatWithOffer) → slice_get n.seats c.args.i ≡ Some s → IsPut n s c.args.at c.args.word c.args.seat (c.args.entry ∷ [])) (sym c.self.view_is) c.requires.next in
    let s = c.index_mut-2.result.now in
    let at : slice_get m.seats c.args.i ≡ Some s = read_there m.seats c.args.i s low c.index_mut-2.ensures.value in
    let pushed : c.push.new.self.items ≡ m.history ++ c.args.entry ∷ [] = search rules in
    subst (λ l. IsKept (machine_of m.shape (slice_set m.words c.args.at c.args.word) (slice_set m.seats c.args.i (with_offer c.args.seat s.offer)) l)) (sym pushed) (kept_made m c.self.invariant c.args.i s c.args.at c.args.word c.args.seat (c.args.entry ∷ []) at (next s at))

pub returns-clause-ok : goal.returns-clause-ok
returns-clause-ok c = λ s e.
    let m : Machine = record { shape = c.self.inside.shape; words = c.self.inside.words.items; seats = c.self.inside.seats.items; history = c.self.inside.history.items } in
    let low : c.args.i < length m.seats = subst (λ (n : Machine). c.args.i < length n.seats) (sym c.self.view_is) c.requires.low in
    let next : (s : SeatWithOffer) → slice_get m.seats c.args.i ≡ Some s → IsPut m s c.args.at c.args.word c.args.seat (c.args.entry ∷ []) =
    subst (λ (n : Machine). (s : SeatWithOffer) → slice_get n.seats c.args.i ≡ Some s → IsPut n s c.args.at c.args.word c.args.seat (c.args.entry ∷ [])) (sym c.self.view_is) c.requires.next in
    let s0 = c.index_mut-2.result.now in
    let at : slice_get m.seats c.args.i ≡ Some s0 = read_there m.seats c.args.i s0 low c.index_mut-2.ensures.value in
    let there : slice_get m.seats c.args.i ≡ Some s = ap (λ (n : Machine). slice_get n.seats c.args.i) c.self.view_is ∙ e in
    let own : s0 ≡ s = same_there m.seats c.args.i s0 s at there in
    let more : c.push.new.self.items ≡ m.history ++ c.args.entry ∷ [] = search rules in
    subst (λ (n : Machine). machine_of m.shape (slice_set m.words c.args.at c.args.word) (slice_set m.seats c.args.i (with_offer c.args.seat s0.offer)) c.push.new.self.items ≡ taken n c.args.i s (next_turn n s)) c.self.view_is
    (ap (λ (x : SeatWithOffer). machine_of m.shape (slice_set m.words c.args.at c.args.word) (slice_set m.seats c.args.i (with_offer c.args.seat x.offer)) c.push.new.self.items) own ∙ ap (λ (l : List Entry). machine_of m.shape (slice_set m.words c.args.at c.args.word) (slice_set m.seats c.args.i (with_offer c.args.seat s.offer)) l) more
    ∙ put_is m c.args.i s c.args.at c.args.word c.args.seat (c.args.entry ∷ []) (next s there))
