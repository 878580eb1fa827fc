use Rattle.std.proofs.Common.{rules, append_assoc}
use Rattle.std.proofs.lemmas.Result.{IfOk-equal}
use Rattle.std.proofs.lemmas.Option.{get_or_from_slice_get}
use Rattle.pepa_model.specs.Expression.{Const, expression_of}
use Rattle.pepa_text.proofs.terms.+push_term.Goals as goal

pub push_expression-requires : goal.push_expression-requires
push_expression-requires t c = (c.recall_invariant.ensures.leaves c.in-Leaf.leaf (expression_of c.leaf.result.now) c.leaf.ensures).named

pub returns-in-Leaf-clause-text : goal.returns-in-Leaf-clause-text
returns-in-Leaf-clause-text t c =
    let same = get_or_from_slice_get c.args.model.now.leaves c.in-Leaf.leaf (expression_of c.leaf.result.now) (Const 0) c.leaf.ensures in
    rw (c.in-Leaf.is, same) c.push_expression.ensures.text

pub returns-in_ok-push_term-in-Coop-2-clause-text : goal.returns-in_ok-push_term-in-Coop-2-clause-text
returns-in_ok-push_term-in-Coop-2-clause-text t c = let brackets = c.is_cooperation-brackets.ensures c.args.model.now in search (rules, IfOk-equal, append_assoc)
