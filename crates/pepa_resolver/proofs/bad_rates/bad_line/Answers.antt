use Rattle.std.proofs.Common.{List, map, subst}
use Rattle.std.proofs.lemmas.List.{take_all}
use Rattle.pepa_reader.specs.declared.trees.RateLine.{RateLine}
use Rattle.pepa_reader.specs.Trees.{rate_line_of}
use Rattle.pepa_resolver.specs.Values.{outcome_of}
use Rattle.pepa_resolver.specs.FirstBad.{IsEarliest, BadLine}
use Rattle.pepa_resolver.proofs.FirstBads.{line_more}
use Rattle.pepa_resolver.proofs.bad_rates.bad_line.Goals as goal

pub loop-i-preserved : goal.loop-i-preserved
loop-i-preserved c =
    line_more c.args.lines.now c.loop-i.i c.index-lines-i.result (map outcome_of c.args.values.now) c.loop-i.bad c.refused_in.result c.earlier-bad.result
    c.loop-i-test.true c.index-lines-i.is c.loop-i.invariant c.refused_in.ensures c.earlier-bad.ensures

pub returns : goal.returns
returns c =
    subst (λ (lines : List RateLine). IsEarliest (BadLine (map rate_line_of lines) (map outcome_of c.args.values.now)) c.loop-i.bad)
    (take_all c.loop-i.i c.args.lines.now c.loop-i-test.false) c.loop-i.invariant
