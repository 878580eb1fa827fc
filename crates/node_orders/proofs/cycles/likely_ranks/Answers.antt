use Rattle.std.proofs.Common.{◌<◌, ap, ◌∙◌, subst, get_or, length, length-set, arith}
use Rattle.node_orders.specs.Graphs.{AreBelow}
use Rattle.node_orders.proofs.Marks.{below_at}
use Rattle.node_orders.proofs.Reaching.{read_below}
use Rattle.node_orders.proofs.cycles.likely_ranks.Goals as goal

pub loop-place-init : goal.loop-place-init
loop-place-init c = record {
  ranks = omega (arith, ap length c.from_vec-ranks.ensures, c.in_ok-vec.ensures.len);
  counts = c.in_ok-counts.ensures;
  queue = subst (λ n. AreBelow n c.in_ok-queue.queue) (ap length c.as_slice.ensures ∙ c.in_ok-counts.ensures) c.in_ok-queue.ensures;
}

pub set-requires : goal.set-requires
set-requires c =
    let low : c.loop-place.place < length c.loop-place.queue = omega arith in
    omega (arith, below_at _ c.loop-place.queue c.loop-place.place c.loop-place.invariant.queue low, ap (λ q. get_or q c.loop-place.place 0) c.as_slice-in-loop-place.ensures)

pub bounds-edges-next : goal.bounds-edges-next
bounds-edges-next c =
    let low : c.loop-place.place < length c.loop-place.queue = omega arith in
    omega (arith, below_at _ c.loop-place.queue c.loop-place.place c.loop-place.invariant.queue low, ap (λ q. get_or q c.loop-place.place 0) c.as_slice-in-loop-place.ensures)

pub release_targets-requires-clause-below : goal.release_targets-requires-clause-below
release_targets-requires-clause-below c =
    let low : c.loop-place.place < length c.loop-place.queue = omega arith in
    let queued = below_at _ c.loop-place.queue c.loop-place.place c.loop-place.invariant.queue low in
    rw c.loop-place.invariant.counts (read_below _ c.args.edges.now _ c.index-edges-next.result _ c.requires.edges_within (omega (arith, queued, ap (λ q. get_or q c.loop-place.place 0) c.as_slice-in-loop-place.ensures)) (c.as_slice-in-loop-place-2.ensures ∙ c.index-edges-next.is))

pub release_targets-requires-clause-queue_below : goal.release_targets-requires-clause-queue_below
release_targets-requires-clause-queue_below c = rw c.loop-place.invariant.counts c.loop-place.invariant.queue

pub loop-place-preserved : goal.loop-place-preserved
loop-place-preserved c = record {
  ranks = ap length c.set.ensures ∙ length-set _ _ _ ∙ c.loop-place.invariant.ranks;
  counts = c.in_ok-release_targets.ensures.0 ∙ c.loop-place.invariant.counts;
  queue = subst (λ n. AreBelow n c.release_targets.new.queue) c.loop-place.invariant.counts c.in_ok-release_targets.ensures.1;
}
