use Rattle.probe_numbers.proofs.WholeNumbers.{above_limit}
use Rattle.probe_numbers.proofs.whole.count_at.Goals as goal

pub returns-then-value-from : goal.returns-then-value-from
returns-then-value-from c =
    above_limit c.args.tokens.now c.args.at c.args.limit c.from.result c.in_ok-value.value c.in-Number.digits c.in-Number.scale c.in_ok-token.token.now
    c.in_ok-token.ensures c.in-Number.is c.in_ok-value.ensures c.from.ensures c.if-value-from.true
