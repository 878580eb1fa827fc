use Rattle.pepa_checks.proofs.NodeSteps.{node_added}
use Rattle.pepa_checks.proofs.nodes.add_node.Goals as goal

pub returns : goal.returns
returns c =
    let told = c.in_ok-place.ensures in
    let stored = told.stored in
    λ e table builds. rw c.in_ok-number.ensures (node_added c.args.nodes.now.keys c.insert_full.new.self.keys c.args.node stored.0 e c.in_ok-place.place told.keys stored.1 stored.2 table builds)
