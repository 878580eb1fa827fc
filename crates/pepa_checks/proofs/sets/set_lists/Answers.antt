use Rattle.std.proofs.Common.{sym}
use Rattle.indexmap.specs.IndexMap.{keys}
use Rattle.node_orders.proofs.Elements.{take_next}
use Rattle.pepa_checks.proofs.sets.set_lists.Goals as goal

pub loop-number-preserved : goal.loop-number-preserved
loop-number-preserved c =
    let more = take_next (keys c.args.sets.now) c.loop-number.number c.set_at.result.now c.set_at.ensures in
    rw (c.in_ok-push.ensures.ok, c.in_ok-list.ensures, c.loop-number.invariant) (sym more)
