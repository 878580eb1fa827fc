use Rattle.std.proofs.Common.{◌^◌, ◌/◌}
use Rattle.std.proofs.lemmas.Nat.{mod-mul-add}
use Rattle.sim_draws.proofs.Limits.{in_rows}
use Rattle.sim_draws.proofs.laws.draws_are_fair.Goals as goal

pub returns-clause-each : goal.returns-clause-each
returns-clause-each c bound row draw h k =
    (in_rows bound row draw (2 ^ 64 / bound) h k, mod-mul-add row bound draw k)
