use Rattle.std.proofs.Common.{◌∙◌, arith}
use Rattle.node_orders.proofs.Reaching.{read_below}
use Rattle.node_orders.proofs.Falling.{falls_more, falls_all}
use Rattle.node_orders.proofs.cycles.do_fall.Goals as goal

pub are_lower-requires : goal.are_lower-requires
are_lower-requires c =
    rw c.requires.one_each (read_below _ c.args.edges.now c.loop-at.at c.index-edges-at.result _ c.requires.edges_within c.loop-at-test.true (c.as_slice.ensures ∙ c.index-edges-at.is))

pub loop-at-preserved : goal.loop-at-preserved
loop-at-preserved c =
    falls_more c.args.edges.now c.args.ranks.now c.loop-at.at c.index-edges-at.result _ c.loop-at.invariant (c.as_slice.ensures ∙ c.index-edges-at.is) (c.are_lower.ensures c.if-not-are_lower.false)

pub returns : goal.returns
returns c = λ _. falls_all c.args.edges.now c.args.ranks.now c.loop-at.at c.requires.one_each (omega arith) c.loop-at.invariant
