use Rattle.std.proofs.Common.{arith}
use Rattle.intern_core.proofs.Chains.{with_none, with_some, with_fits}
use Rattle.intern_core.proofs.places.bucket.Goals as goal

pub returns-then-bits-eq0 : goal.returns-then-bits-eq0
returns-then-bits-eq0 c = with_none c.args.key c.args.bits c.if-bits-eq0.true

pub overflow_cast-result-2 : goal.overflow_cast-result-2
overflow_cast-result-2 c =
    let same = with_some c.args.key c.args.bits c.if-bits-eq0.false in
    let fits = with_fits c.args.key c.args.bits c.requires in
    omega arith

pub returns : goal.returns
returns c = with_some c.args.key c.args.bits c.if-bits-eq0.false
