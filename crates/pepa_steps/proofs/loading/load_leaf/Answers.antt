use Rattle.std.proofs.Common.{refl, arith}
use Rattle.std.proofs.lemmas.Result.{err_from_is_err_and}
use Rattle.std.proofs.lemmas.Option.{slice_get-get_or}
use Rattle.pepa_model.specs.Expression.{Const}
use Rattle.pepa_steps.proofs.Loads.{leaf_loaded}
use Rattle.pepa_steps.proofs.LeafParts.{leaf_fault}
use Rattle.pepa_steps.proofs.loading.load_leaf.Goals as goal

pub returns-in_err-rates-clause-answers : goal.returns-in_err-rates-clause-answers
returns-in_err-rates-clause-answers c =
    let p = err_from_is_err_and c.from_residual-in_err-rates.result c.from_residual-in_err-rates.ensures.1 in
    rw (p.1, p.2)
    (leaf_fault c.args.model.now c.recall_invariant.ensures c.args.leaf _ (slice_get-get_or c.args.model.now.leaves c.args.leaf (Const 0) c.requires.leaf) c.activities.result.now c.activities.ensures.stored
    _ c.in_err-rates.ensures.answers)

pub returns-clause-answers : goal.returns-clause-answers
returns-clause-answers c =
    leaf_loaded c.args.model.now c.recall_invariant.ensures c.args.leaf _ c.activities.result.now _ _ _ (slice_get-get_or c.args.model.now.leaves c.args.leaf (Const 0) c.requires.leaf) c.activities.ensures.stored
    (omega (arith, c.len-start.ensures)) c.in_ok-push_activities.ensures refl refl c.in_ok-rates.ensures.answers
