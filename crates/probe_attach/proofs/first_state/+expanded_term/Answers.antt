use Rattle.std.proofs.Common.{ap, arith}
use Rattle.pepa_model.specs.Expression.{shape_of}
use Rattle.probe_attach.proofs.FirstTerms.{const_can_expand, coop_can_expand, hide_can_expand, leaf_stands, coop_stands, hide_stands, const_answer}
use Rattle.probe_attach.proofs.first_state.+expanded_term.Goals as goal

pub overflow_sub-depth : goal.overflow_sub-depth
overflow_sub-depth t c = (const_can_expand c.args.model.now c.recall_invariant.ensures _ _ _ _ (ap shape_of c.in-Constant.is) c.compound_system.ensures c.requires).positive

pub expanded_term-requires : goal.expanded_term-requires
expanded_term-requires t c =
    let below = const_can_expand c.args.model.now c.recall_invariant.ensures _ _ _ _ (ap shape_of c.in-Constant.is) c.compound_system.ensures c.requires in
    (omega (arith, below.positive), below.inner)

pub overflow_sub-depth-in-Coop : goal.overflow_sub-depth-in-Coop
overflow_sub-depth-in-Coop t c = (coop_can_expand c.args.model.now c.recall_invariant.ensures _ _ _ _ _ (ap shape_of c.in-Coop.is) c.requires).positive

pub expanded_term-requires-in-Coop : goal.expanded_term-requires-in-Coop
expanded_term-requires-in-Coop t c =
    let below = coop_can_expand c.args.model.now c.recall_invariant.ensures _ _ _ _ _ (ap shape_of c.in-Coop.is) c.requires in
    (omega (arith, below.positive), rw c.deref.ensures below.left)

pub overflow_sub-depth-in-Coop-2 : goal.overflow_sub-depth-in-Coop-2
overflow_sub-depth-in-Coop-2 t c = (coop_can_expand c.args.model.now c.recall_invariant.ensures _ _ _ _ _ (ap shape_of c.in-Coop.is) c.requires).positive

pub expanded_term-requires-in-Coop-2 : goal.expanded_term-requires-in-Coop-2
expanded_term-requires-in-Coop-2 t c =
    let below = coop_can_expand c.args.model.now c.recall_invariant.ensures _ _ _ _ _ (ap shape_of c.in-Coop.is) c.requires in
    (omega (arith, below.positive), rw c.deref-in-Coop.ensures below.right)

pub overflow_sub-depth-in-Hide : goal.overflow_sub-depth-in-Hide
overflow_sub-depth-in-Hide t c = (hide_can_expand c.args.model.now c.recall_invariant.ensures _ _ _ _ (ap shape_of c.in-Hide.is) c.requires).positive

pub expanded_term-requires-in-Hide : goal.expanded_term-requires-in-Hide
expanded_term-requires-in-Hide t c =
    let below = hide_can_expand c.args.model.now c.recall_invariant.ensures _ _ _ _ (ap shape_of c.in-Hide.is) c.requires in
    (omega (arith, below.positive), rw c.deref-in-Hide.ensures below.inner)

pub returns-in-Leaf : goal.returns-in-Leaf
returns-in-Leaf t c = leaf_stands c.args.model.now c.recall_invariant.ensures _ _ _ (ap shape_of c.in-Leaf.is) c.leaf_number.ensures

pub returns-in-Constant : goal.returns-in-Constant
returns-in-Constant t c = const_answer c.args.model.now c.recall_invariant.ensures _ _ _ _ (ap shape_of c.in-Constant.is) c.compound_system.ensures c.expanded_term.ensures

pub returns-in_ok-right-in-Coop : goal.returns-in_ok-right-in-Coop
returns-in_ok-right-in-Coop t c =
    rw (c.in_ok-left-in-Coop.ensures.ok, c.in_ok-right-in-Coop.ensures.ok)
    (coop_stands c.args.model.now c.recall_invariant.ensures _ _ _ _ _ _ (ap shape_of c.in-Coop.is) c.requires.is_shape
    (rw c.deref.ensures at c.in_ok-expanded_term-in-Coop.ensures) (rw c.deref-in-Coop.ensures at c.in_ok-expanded_term-in-Coop-2.ensures))

pub returns-in_ok-inner-in-Hide : goal.returns-in_ok-inner-in-Hide
returns-in_ok-inner-in-Hide t c =
    rw c.in_ok-inner-in-Hide.ensures.ok
    (hide_stands c.args.model.now c.recall_invariant.ensures _ _ _ _ (ap shape_of c.in-Hide.is) c.requires.is_shape (rw c.deref-in-Hide.ensures at c.in_ok-expanded_term-in-Hide.ensures))
