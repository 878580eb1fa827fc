use Rattle.std.proofs.Common.{◌≡◌, ◌≢◌, ◌≤◌, ◌<◌, ap, ◌∙◌, arith, length, slice_index}
use Rattle.std.proofs.lemmas.List.{get_or_default}
use Rattle.intern_core.specs.Layout.{claim_at}
use Rattle.intern_core.specs.Machine.{Machine, some_keeps, is_known}
use Rattle.intern_core.proofs.Machines.{known_unless_spare}
use Rattle.intern_core.proofs.machine.Core.is_known.Goals as goal

pub returns : goal.returns
returns c =
    let s = c.self.inside in
    let m : Machine = record { shape = s.shape; words = s.words.items; seats = s.seats.items; history = s.history.items } in
    let room : claim_at < length m.words = let long = c.self.invariant.kept.long in omega arith in
    let word : c.index.result.now ≡ slice_index m.words claim_at = c.index.ensures ∙ get_or_default m.words 0 c.index.result.now 0 room in
    let some_n : c.args.number ≢ 0 = (λ e. let f = c.if-number-eq0.false in omega arith) in
    let low : c.args.number ≤ m.shape.nodes = let f = c.if-number-self.false in omega arith in
    let given : c.args.number ≤ slice_index m.words claim_at = let f = c.if-from-index.false in let g = c.from.ensures in omega arith in
    known_unless_spare m c.self.invariant c.args.number some_n low given c.is_spare.result (c.is_spare.ensures ∙ ap (some_keeps c.args.number) c.deref.ensures.value)
    ∙ ap (λ (x : Machine). is_known c.args.number x.history) c.self.view_is
