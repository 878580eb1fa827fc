use Rattle.std.proofs.Common.{rules, subst, append_assoc}
use Rattle.std.proofs.lemmas.Result.{IfOk-equal}
use Rattle.pepa_model.specs.Expression.{expression_of, shape_of}
use Rattle.pepa_model.specs.PepaModel.{IsShapeOf}
use Rattle.pepa_model.specs.declared.term.Shape2.{Shape2}
use Rattle.pepa_text.proofs.ModelNumbers.{leaf_named, constant_known}
use Rattle.pepa_text.proofs.systems.+push_shape.Goals as goal

pub push_expression-requires : goal.push_expression-requires
push_expression-requires t c =
    leaf_named c.args.model.now c.recall_invariant.ensures (expression_of c.in-Leaf.component)
    (subst (λ (s : Shape2). IsShapeOf c.args.model.now (shape_of s)) c.in-Leaf.is c.requires)

pub push_constant-requires : goal.push_constant-requires
push_constant-requires t c =
    constant_known c.args.model.now c.recall_invariant.ensures c.in-Constant.constant
    (subst (λ (s : Shape2). IsShapeOf c.args.model.now (shape_of s)) c.in-Constant.is c.requires)

pub returns-in_ok-push_shape-in-Coop-2-clause-text : goal.returns-in_ok-push_shape-in-Coop-2-clause-text
returns-in_ok-push_shape-in-Coop-2-clause-text t c = let brackets = c.is_cooperation-brackets.ensures c.args.model.now in search (rules, IfOk-equal, append_assoc)

pub returns-in_ok-push_bracket-in-Hide-2-clause-text : goal.returns-in_ok-push_bracket-in-Hide-2-clause-text
returns-in_ok-push_bracket-in-Hide-2-clause-text t c = let brackets = c.is_bracketed-brackets.ensures c.args.model.now in search (rules, IfOk-equal, append_assoc)
