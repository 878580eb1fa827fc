use Rattle.pepa_model.specs.Expression.{expression_of}
use Rattle.model_tests.proofs.texts.write_component.Goals as goal

pub push_expression-requires : goal.push_expression-requires
push_expression-requires g c = (c.recall_invariant.ensures.leaves c.args.leaf (expression_of c.leaf.result.now) c.leaf.ensures).named
