use Rattle.std.proofs.Common.{◌≤◌, ◌++◌, length, ap, sym, ◌∙◌, subst, arith, List}
use Rattle.std.proofs.lemmas.List.{take_all}
use Rattle.pepa_checks.specs.declared.summand.Performed.{Performed}
use Rattle.pepa_checks.specs.ActivityLists.{performed_by, performed_in}
use Rattle.pepa_checks.proofs.ListsMaking.{one_operand_more, operand_fits, out_of_room}
use Rattle.pepa_checks.proofs.activities.list_of.Goals as goal

pub returns-then-count_of-room : goal.returns-then-count_of-room
returns-then-count_of-room c =
    out_of_room c.args.constants.now c.args.lists.now c.args.operands.now c.loop-operand.operand-index c.operand-item.result c.loop-operand-test.true c.operand-item.is
    c.loop-operand.list.items c.args.room c.loop-operand.invariant.list (omega arith)

pub loop-operand-preserved : goal.loop-operand-preserved
loop-operand-preserved c =
    let list = c.loop-operand.list.items in
    let more = performed_by c.args.constants.now c.args.lists.now c.operand-item.result in
    rw c.in_ok-add_operand.ensures record {
      list = ap (λ (xs : List Performed). xs ++ more) c.loop-operand.invariant.list
          ∙ sym (one_operand_more c.args.constants.now c.args.lists.now c.args.operands.now c.loop-operand.operand-index c.operand-item.result c.loop-operand-test.true c.operand-item.is);
      few = operand_fits c.args.constants.now c.args.lists.now c.args.operands.now c.loop-operand.operand-index c.operand-item.result c.loop-operand-test.true c.operand-item.is
          list c.args.room c.loop-operand.invariant.list (omega arith);
    }

pub returns : goal.returns
returns c =
    let whole = ap (performed_in c.args.constants.now c.args.lists.now) (take_all c.loop-operand.operand-index c.args.operands.now c.loop-operand-test.false) in
    (c.from_vec.ensures ∙ (c.loop-operand.invariant.list ∙ whole), subst (λ (xs : List Performed). length xs ≤ c.args.room) (sym c.from_vec.ensures) c.loop-operand.invariant.few)
