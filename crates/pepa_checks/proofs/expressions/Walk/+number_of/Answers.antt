use Rattle.std.proofs.Common.{refl, sym, ap, ◌∙◌}
use Rattle.pepa_resolver.specs.NamedTypes.{named_of}
use Rattle.pepa_checks.proofs.WalkSteps.{if_ok_then, constant_walked, prefix_walked, choice_walked}
use Rattle.pepa_checks.proofs.expressions.Walk.+number_of.Goals as goal

pub returns-in_ok-push-in-Constant : goal.returns-in_ok-push-in-Constant
returns-in_ok-push-in-Constant t c =
    if_ok_then c.add_node.result c.add_node.ensures (λ number add written stands.
    rw c.in-Constant.is (constant_walked c.args.self.now _ c.args.operands.now _ written _ _ number stands refl c.in_ok-push-in-Constant.ensures.ok add))

pub returns-in_ok-push-in-Prefix-2 : goal.returns-in_ok-push-in-Prefix-2
returns-in_ok-push-in-Prefix-2 t c =
    if_ok_then c.add_node-in-Prefix.result c.add_node-in-Prefix.ensures (λ number add written stands.
    rw (c.in-Prefix.is, sym c.deref.ensures) (prefix_walked c.args.self.now _ _ c.args.operands.now _ _ _ written _ _ _ _ _ _ number stands c.new-behind.ensures (c.in_ok-number-in-Prefix.ensures written stands) (ap named_of (c.deref-in-Prefix.ensures ∙ sym c.deref.ensures)) refl c.in_ok-push-in-Prefix.ensures.ok c.in_ok-push-in-Prefix-2.ensures.ok c.of.ensures add))

pub returns-in_ok-first-in-Choice : goal.returns-in_ok-first-in-Choice
returns-in_ok-first-in-Choice t c =
    if_ok_then c.add_node-in-Choice.result c.add_node-in-Choice.ensures (λ number add written stands.
    let behind = c.in_ok-second-in-Choice.ensures written stands in
    rw (c.in-Choice.is, sym c.deref-in-Choice-2.ensures, sym c.deref-in-Choice.ensures) (choice_walked c.args.self.now _ _ _ c.args.operands.now _ _ written _ _ _ _ number behind (c.in_ok-first-in-Choice.ensures _ behind.stands) refl add))
