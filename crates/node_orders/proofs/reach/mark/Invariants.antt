use Rattle.std.proofs.Common.{take}
use Rattle.node_orders.specs.Marking.{IsMarking}
use Rattle.node_orders.proofs.reach.mark.Given as goal

abbrev pub invariant-loop-target : goal.invariant-loop-target
invariant-loop-target l =
    IsMarking (take l.target-index l.targets) l.initial.seen l.initial.queue l.seen l.queue
