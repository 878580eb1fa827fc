use Rattle.std.proofs.Common.{◌++◌, ◌∙◌, ap, ◌^◌, arith}
use Rattle.pepa_model.specs.Expression.{shape_of}
use Rattle.probe_attach.specs.Systems as spec
use Rattle.probe_attach.specs.Systems.{compounds_in}
use Rattle.probe_attach.proofs.SystemLeaves.{own_is_few, counts_first, next_constant, next_system}
use Rattle.probe_attach.proofs.system_size.system_leaves.Goals as goal

pub own_leaves-requires : goal.own_leaves-requires
own_leaves-requires c =
    rw c.system.ensures (own_is_few c.args.model.now c.recall_invariant.ensures)

pub loop-constant-init : goal.loop-constant-init
loop-constant-init c =
    let is = c.system.ensures in
    counts_first c.args.model.now c.in_ok-count.count c.own_leaves.new.constants c.recall_invariant.ensures
    (c.in_ok-count.ensures.count ∙ ap spec.own_leaves is)
    (c.in_ok-count.ensures.constants ∙ ap (λ l. l ++ compounds_in (shape_of c.system.result.now)) c.new-constants.ensures ∙ ap compounds_in is)

pub compound_system-requires : goal.compound_system-requires
compound_system-requires c =
    let next = next_constant c.args.model.now (2 ^ 21) c.loop-constant.count c.loop-constant.constants c.pop.new.self c.in-Some.constant c.loop-constant.invariant c.in-Some.ensures in
    (next.shape, next.is)

pub own_leaves-requires-in-Some : goal.own_leaves-requires-in-Some
own_leaves-requires-in-Some c =
    let next = next_system c.args.model.now (2 ^ 21) c.loop-constant.count c.loop-constant.constants c.pop.new.self c.in-Some.constant _ c.loop-constant.invariant c.in-Some.ensures c.compound_system.ensures in
    omega (arith, next.few)

pub overflow_add-count : goal.overflow_add-count
overflow_add-count c =
    let next = next_system c.args.model.now (2 ^ 21) c.loop-constant.count c.loop-constant.constants c.pop.new.self c.in-Some.constant _ c.loop-constant.invariant c.in-Some.ensures c.compound_system.ensures in
    omega (arith, next.few, c.in_ok-count-2.ensures.count)

pub loop-constant-smaller : goal.loop-constant-smaller
loop-constant-smaller c =
    let next = next_system c.args.model.now (2 ^ 21) c.loop-constant.count c.loop-constant.constants c.pop.new.self c.in-Some.constant _ c.loop-constant.invariant c.in-Some.ensures c.compound_system.ensures in
    rw (c.in_ok-count-2.ensures.constants, c.in-Some.ensures) next.lighter

pub loop-constant-preserved : goal.loop-constant-preserved
loop-constant-preserved c =
    let next = next_system c.args.model.now (2 ^ 21) c.loop-constant.count c.loop-constant.constants c.pop.new.self c.in-Some.constant _ c.loop-constant.invariant c.in-Some.ensures c.compound_system.ensures in
    rw (c.in_ok-count-2.ensures.count, c.in_ok-count-2.ensures.constants) next.more
