use Rattle.std.proofs.Common.{subst}
use Rattle.intern_core.specs.History.{HasOneNumberPerKey}
use Rattle.intern_core.specs.Machine.{Machine, seats_of}
use Rattle.intern_core.proofs.Numbers.{one_number_per_key}
use Rattle.intern_core.proofs.Steps.{known_once}
use Rattle.intern_core.proofs.machine.Core.valid.Goals as goal

pub returns-clause-keys : goal.returns-clause-keys
returns-clause-keys c =
    let s = c.self.inside in
    subst (λ (m : Machine). HasOneNumberPerKey m.history) c.self.view_is
    (one_number_per_key s.shape s.history.items c.self.invariant.kept.legal (known_once s.shape s.words.items (seats_of s.seats.items) s.history.items c.self.invariant.kept))
