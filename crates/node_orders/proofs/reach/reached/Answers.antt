use Rattle.std.proofs.Common.{◌<◌, length, arith, ap, ◌∙◌, get_or}
use Rattle.node_orders.proofs.Reaching.{search_begins, search_goes_at, search_ends, next_below, read_below}
use Rattle.node_orders.proofs.reach.reached.Goals as goal

pub mark-requires : goal.mark-requires
mark-requires c =
    λ d among. let low : d < length c.args.edges.now = c.requires.from_within d among in omega (arith, ap length c.from_vec-seen.ensures, c.in_ok-vec.ensures.len)

pub loop-done-init : goal.loop-done-init
loop-done-init c =
    search_begins c.args.edges.now c.args.from.now _ _ (rw (c.from_vec-seen.ensures, c.in_ok-vec.ensures.items_if_clones_equal (λ y h. h), c.new-queue.ensures) at c.in_ok-mark.ensures)

pub bounds-edges-next : goal.bounds-edges-next
bounds-edges-next c =
    next_below c.args.edges.now c.args.from.now c.loop-done.seen c.loop-done.queue c.loop-done.done _ c.loop-done.invariant (omega arith) (ap (λ q. get_or q c.loop-done.done 0) c.as_slice.ensures)

pub mark-requires-in-loop-done : goal.mark-requires-in-loop-done
mark-requires-in-loop-done c =
    let below = next_below c.args.edges.now c.args.from.now c.loop-done.seen c.loop-done.queue c.loop-done.done _ c.loop-done.invariant (omega arith) (ap (λ q. get_or q c.loop-done.done 0) c.as_slice.ensures) in
    rw c.loop-done.invariant.sizes (read_below _ c.args.edges.now _ c.index-edges-next.result _ c.requires.edges_within below (c.as_slice-in-loop-done.ensures ∙ c.index-edges-next.is))

pub loop-done-preserved : goal.loop-done-preserved
loop-done-preserved c =
    search_goes_at c.args.edges.now c.args.from.now c.loop-done.seen c.loop-done.queue c.loop-done.done _ c.index-edges-next.result _ _ _ c.requires.edges_within c.loop-done.invariant (omega arith) (ap (λ q. get_or q c.loop-done.done 0) c.as_slice.ensures) (c.as_slice-in-loop-done.ensures ∙ c.index-edges-next.is) c.in_ok-mark-2.ensures

pub returns : goal.returns
returns c =
    (c.loop-done.invariant.sizes, search_ends c.args.edges.now c.args.from.now c.loop-done.seen c.loop-done.queue c.loop-done.done c.loop-done.invariant (omega arith))
