use Rattle.probe_numbers.proofs.FirstIndices.{no_bad_range}
use Rattle.probe_numbers.proofs.bad_counts.bad_range.Goals as goal

pub returns-else-from-to : goal.returns-else-from-to
returns-else-from-to c =
    no_bad_range c.args.tokens.now c.args.least c.args.most c.in-Some.from c.in-Some-count_at.to
    c.in-Some.ensures.0 c.in-Some.ensures.1 c.in-Some-count_at.ensures.0 c.in-Some-count_at.ensures.1 c.if-from-to.false
