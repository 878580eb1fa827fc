use Rattle.std.proofs.Common.{◌∙◌, ap, get_or, false, sym}
use Rattle.node_orders.proofs.Reaching.{read_below}
use Rattle.node_orders.proofs.Falling.{has_reach, reaches_back}
use Rattle.node_orders.proofs.cycles.reach.Goals as goal

pub reached-requires-clause-from_within : goal.reached-requires-clause-from_within
reached-requires-clause-from_within c =
    read_below _ c.args.edges.now c.args.node c.index-edges-node.result _ c.requires.edges_within c.requires.node_within (c.as_slice.ensures ∙ c.index-edges-node.is)

pub returns-then-as_slice-node : goal.returns-then-as_slice-node
returns-then-as_slice-node c =
    reaches_back c.args.edges.now c.args.node c.index-edges-node.result c.as_slice.result.now c.in_ok-table.table c.requires.node_within (c.as_slice.ensures ∙ c.index-edges-node.is) c.in_ok-table.ensures (sym (ap (λ t. get_or t c.args.node false) c.as_slice-2.ensures) ∙ c.if-as_slice-node.true)

pub returns : goal.returns
returns c =
    has_reach c.args.edges.now c.args.node c.index-edges-node.result c.as_slice.result.now c.in_ok-table.table c.count_marked.result c.requires.node_within (c.as_slice.ensures ∙ c.index-edges-node.is) c.in_ok-table.ensures
    (sym (ap (λ t. get_or t c.args.node false) c.as_slice-2.ensures) ∙ c.if-as_slice-node.false) (rw c.as_slice-3.ensures at c.count_marked.ensures)
