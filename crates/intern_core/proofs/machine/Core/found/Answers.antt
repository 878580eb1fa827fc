use Rattle.std.proofs.Common.{◌<◌, sym, ap, ◌∙◌, subst, arith, length, slice_get, slice_index}
use Rattle.std.proofs.lemmas.List.{get_or_default}
use Rattle.intern_core.specs.Turns.{next_place}
use Rattle.intern_core.specs.Machine.{Machine}
use Rattle.intern_core.proofs.Machines.{turn_there}
use Rattle.intern_core.proofs.machine.Core.found.Goals as goal

pub index-requires : goal.index-requires
index-requires c =
    let m : Machine = record { shape = c.self.inside.shape; words = c.self.inside.words.items; seats = c.self.inside.seats.items; history = c.self.inside.history.items } in
    let there = turn_there m c.self.invariant c.args.i c.args.s.now (ap (λ (n : Machine). slice_get n.seats c.args.i) c.self.view_is ∙ c.requires) in
    let low = there.0 in
    let e = c.place.ensures in
    omega arith

pub returns : goal.returns
returns c =
    let m : Machine = record { shape = c.self.inside.shape; words = c.self.inside.words.items; seats = c.self.inside.seats.items; history = c.self.inside.history.items } in
    let there = turn_there m c.self.invariant c.args.i c.args.s.now (ap (λ (n : Machine). slice_get n.seats c.args.i) c.self.view_is ∙ c.requires) in
    let low : c.place.result < length m.words = subst (λ n. n < length m.words) (sym c.place.ensures) there.0 in
    c.index.ensures ∙ get_or_default m.words c.place.result c.index.result.now 0 low ∙ ap (slice_index m.words) c.place.ensures
    ∙ ap (λ (n : Machine). slice_index n.words (next_place n.shape c.args.s.now.seat)) c.self.view_is
