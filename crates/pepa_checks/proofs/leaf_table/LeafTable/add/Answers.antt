use Rattle.std.proofs.Common.{refl}
use Rattle.pepa_model.specs.Expression.{expression_of}
use Rattle.pepa_checks.proofs.LeafSteps.{adds_new, adds_again}
use Rattle.pepa_checks.proofs.leaf_table.LeafTable.add.Goals as goal

pub returns-in_ok-push-2 : goal.returns-in_ok-push-2
returns-in_ok-push-2 c =
    adds_new c.args.self.now _ c.args.number c.args.expression c.args.operands c.in_ok-insert.field-0 c.in_ok-insert.ensures.added c.if-branch.true c.in_ok-insert.ensures.keys c.in_ok-push.ensures.ok c.in_ok-push-2.ensures.ok

pub returns-else-branch : goal.returns-else-branch
returns-else-branch c =
    adds_again c.args.self.now _ c.args.number (expression_of c.args.expression) c.args.operands c.in_ok-insert.field-0 c.in_ok-insert.ensures.added c.if-branch.false c.in_ok-insert.ensures.keys refl refl
