use Rattle.std.proofs.Common.{refl}
use Rattle.pepa_resolver.specs.NamedTypes.{named_of}
use Rattle.pepa_checks.proofs.FileWalks.{line_walked}
use Rattle.pepa_checks.proofs.expressions.Walk.add_line.Goals as goal

pub returns : goal.returns
returns c = λ written lines stands heads.
    line_walked c.args.self.now c.number_of.new.self _ _ _ c.args.heads.now _ written lines c.args.constant (named_of c.args.body.now) _ _ c.new-operands.ensures (c.in_ok-_body.ensures written stands) refl c.in_ok-number.ensures refl refl c.in_ok-push.ensures.ok heads
