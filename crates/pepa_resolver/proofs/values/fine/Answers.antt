use Rattle.std.proofs.Common.{sym}
use Rattle.pepa_resolver.proofs.ValueLemmas.{zero_refused}
use Rattle.pepa_resolver.proofs.values.fine.Goals as goal

pub returns-then-n-eq0 : goal.returns-then-n-eq0
returns-then-n-eq0 c = rw c.if-n-eq0.true (sym (zero_refused c.args.at c.args.d))
