use Rattle.std.proofs.Common.{◌∙◌, arith}
use Rattle.sim_workers.proofs.RunLists.{count_more, run_more, stopped_after}
use Rattle.sim_workers.proofs.alone.run_alone.Goals as goal

pub loop-before-preserved : goal.loop-before-preserved
loop-before-preserved c =
    let inv = c.loop-before.invariant in
    record {
      model = c.numbered.ensures.same ∙ inv.model;
      count = count_more c.loop-before.ended _ c.in-Ok.ran c.loop-before.before c.in_ok-push-in-Ok.ensures.ok inv.count;
      are = run_more c.args.model.now _ c.args.order.now c.loop-before.ended c.loop-before.before inv.model inv.count inv.are _ c.in-Ok.ran (rw c.in-Ok.is at c.in_ok-ran.ensures.run) c.in_ok-push-in-Ok.ensures.ok;
    }

pub returns-in-Err : goal.returns-in-Err
returns-in-Err c =
    let inv = c.loop-before.invariant in
    stopped_after c.args.model.now _ c.args.order.now c.loop-before.ended c.loop-before.before inv.model inv.count inv.are c.in-Err.stop (omega arith) (rw c.in-Err.is at c.in_ok-ran.ensures.run)

pub returns : goal.returns
returns c = let count = c.loop-before.invariant.count in (omega (arith, count), c.loop-before.invariant.are)
