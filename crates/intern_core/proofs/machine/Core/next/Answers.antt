use Rattle.std.proofs.Common.{◌≡◌, ◌<◌, ℕ, List, sym, ap, ◌∙◌, subst, length, slice_get, slice_index, Some}
use Rattle.intern_core.specs.declared.history.EntryWords.{EntryWords}
use Rattle.intern_core.specs.declared.machine.Next.{Next}
use Rattle.intern_core.specs.declared.seat.SeatWithOffer.{SeatWithOffer}
use Rattle.intern_core.specs.Turns.{next_place, turn_of, FitsTurn}
use Rattle.intern_core.specs.Machine.{Machine}
use Rattle.intern_core.specs.Nexts.{IsNext}
use Rattle.intern_core.proofs.Machines.{turn_there, same_there, read_there}
use Rattle.intern_core.proofs.machine.Core.next.Goals as goal

pub left-requires : goal.left-requires
left-requires c =
    let m : Machine = record { shape = c.self.inside.shape; words = c.self.inside.words.items; seats = c.self.inside.seats.items; history = c.self.inside.history.items } in
    let low : c.args.i < length m.seats = subst (λ (n : Machine). c.args.i < length n.seats) (sym c.self.view_is) c.requires in
    let s = c.index-s.result.now in
    let at : slice_get m.seats c.args.i ≡ Some s = read_there m.seats c.args.i s low c.index-s.ensures in
    let found : c.found-found.result ≡ slice_index m.words (next_place m.shape s.seat) =
    c.found-found.ensures ∙ ap (λ (n : Machine). slice_index n.words (next_place n.shape s.seat)) (sym c.self.view_is) in
    let fits : FitsTurn m.shape s.offer s.seat.phase c.found-found.result =
    subst (FitsTurn m.shape s.offer s.seat.phase) (sym found) (turn_there m c.self.invariant c.args.i s at).1 in
    (m.shape, subst (λ (o : List EntryWords). FitsTurn m.shape o s.seat.phase c.found-found.result) (sym c.as_slice.ensures) fits)

pub turned-requires-clause-go : goal.turned-requires-clause-go
turned-requires-clause-go c =
    let m : Machine = record { shape = c.self.inside.shape; words = c.self.inside.words.items; seats = c.self.inside.seats.items; history = c.self.inside.history.items } in
    let low : c.args.i < length m.seats = subst (λ (n : Machine). c.args.i < length n.seats) (sym c.self.view_is) c.requires in
    let s = c.index-s.result.now in
    let at : slice_get m.seats c.args.i ≡ Some s = read_there m.seats c.args.i s low c.index-s.ensures in
    let found : c.found-found.result ≡ slice_index m.words (next_place m.shape s.seat) =
    c.found-found.ensures ∙ ap (λ (n : Machine). slice_index n.words (next_place n.shape s.seat)) (sym c.self.view_is) in
    let fits : FitsTurn m.shape s.offer s.seat.phase c.found-found.result =
    subst (FitsTurn m.shape s.offer s.seat.phase) (sym found) (turn_there m c.self.invariant c.args.i s at).1 in
    (s.offer, fits)

pub returns : goal.returns
returns c = λ s' e.
    let m : Machine = record { shape = c.self.inside.shape; words = c.self.inside.words.items; seats = c.self.inside.seats.items; history = c.self.inside.history.items } in
    let low : c.args.i < length m.seats = subst (λ (n : Machine). c.args.i < length n.seats) (sym c.self.view_is) c.requires in
    let s = c.index-s.result.now in
    let at : slice_get m.seats c.args.i ≡ Some s = read_there m.seats c.args.i s low c.index-s.ensures in
    let found : c.found-found.result ≡ slice_index m.words (next_place m.shape s.seat) =
    c.found-found.ensures ∙ ap (λ (n : Machine). slice_index n.words (next_place n.shape s.seat)) (sym c.self.view_is) in
    let fits : FitsTurn m.shape s.offer s.seat.phase c.found-found.result =
    subst (FitsTurn m.shape s.offer s.seat.phase) (sym found) (turn_there m c.self.invariant c.args.i s at).1 in
    let there : slice_get m.seats c.args.i ≡ Some s' = ap (λ (n : Machine). slice_get n.seats c.args.i) c.self.view_is ∙ e in
    let own : s ≡ s' = same_there m.seats c.args.i s s' at there in
    let next : Next = record { at = c.place.result; word = c.left.result; seat = c.turned.result; made = c.in_ok-made.field-0; outcome = c.outcome_of.result } in
    let is : IsNext m s next = record {
      at = c.place.ensures;
      word = c.left.ensures m.shape ∙ ap (λ (o : List EntryWords). (turn_of m.shape o s.seat c.found-found.result).word) c.as_slice.ensures
          ∙ ap (λ (v : ℕ). (turn_of m.shape s.offer s.seat v).word) found;
      seat = c.turned.ensures s.offer ∙ ap (λ (v : ℕ). (turn_of m.shape s.offer s.seat v).seat) found;
      made = c.in_ok-made.ensures m.shape ∙ ap (λ (o : List EntryWords). (turn_of m.shape o s.seat c.found-found.result).made) c.as_slice-2.ensures
          ∙ ap (λ (v : ℕ). (turn_of m.shape s.offer s.seat v).made) found;
      outcome = c.outcome_of.ensures s.offer ∙ ap (λ (v : ℕ). (turn_of m.shape s.offer s.seat v).outcome) found;
    } in
    subst (λ (n : Machine). IsNext n s' next) c.self.view_is (subst (λ (x : SeatWithOffer). IsNext m x next) own is)
