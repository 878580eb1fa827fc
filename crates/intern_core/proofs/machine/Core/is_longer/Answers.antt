use Rattle.std.proofs.Common.{◌≡◌, false, subst, inl, inr}
use Rattle.intern_core.specs.Machine.{Machine, is_longer}
use Rattle.intern_core.proofs.Machines.{no_listing}
use Rattle.intern_core.proofs.machine.Core.is_longer.Goals as goal
use Rattle.intern_core.proofs.machine.Core.is_longer.Goals.{then-number-eq0-via-then-number-eq0, then-number-eq0-via-else-number-eq0+then-number-self}
use Rattle.intern_core.specs.History.{listing_in}

pub returns-then-number-eq0 : goal.returns-then-number-eq0
returns-then-number-eq0 c =
    let m : Machine = record { shape = c.self.inside.shape; words = c.self.inside.words.items; seats = c.self.inside.seats.items; history = c.self.inside.history.items } in
    subst (λ (n : Machine). false ≡ is_longer c.args.at (listing_in n.history c.args.number)) c.self.view_is
    (elim c.then-number-eq0.branch [
      | then-number-eq0-via-then-number-eq0 w ↦ no_listing m c.self.invariant c.args.number c.args.at (inl w.if-number-eq0.true)
      | then-number-eq0-via-else-number-eq0+then-number-self w ↦ no_listing m c.self.invariant c.args.number c.args.at (inr w.if-number-self.true)
    ])
