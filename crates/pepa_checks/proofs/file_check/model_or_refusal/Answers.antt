use Rattle.std.proofs.lemmas.Result.{err_from_is_err_and}
use Rattle.pepa_reader.specs.Trees.{file_node_of}
use Rattle.pepa_checks.proofs.Judgements.{stopped_end, ordered, late_end, ready, read}
use Rattle.pepa_checks.proofs.file_check.model_or_refusal.Goals as goal

pub returns-in_err-file : goal.returns-in_err-file
returns-in_err-file c =
    let p = err_from_is_err_and c.from_residual.result c.from_residual.ensures.1 in
    rw (p.1, p.2) (stopped_end _ _ c.args.input.now c.args.tokens.now (file_node_of c.args.tree.now) _ c.in_err-file.ensures)

pub judge-requires : goal.judge-requires
judge-requires c = ordered c.args.input.now c.args.tokens.now c.args.tree.now c.requires.tokens c.requires.tree c.in_ok-file.file c.in_ok-file.ensures

pub model_of-requires : goal.model_of-requires
model_of-requires c = ready c.args.input.now c.args.tokens.now c.args.tree.now c.requires.tokens c.requires.tree c.in_ok-file.file c.in_ok-file.ensures c.in-Ok.counted c.in-Ok.ensures.0 c.in-Ok.ensures.1

pub returns-in_ok-model_of-in-Ok : goal.returns-in_ok-model_of-in-Ok
returns-in_ok-model_of-in-Ok c =
    read c.args.input.now c.args.tokens.now c.args.tree.now c.requires.tokens c.requires.tree c.in_ok-file.file c.in_ok-file.ensures c.in-Ok.counted c.in-Ok.ensures.0 c.in-Ok.ensures.1 c.in_ok-model_of-in-Ok.field-0 c.requires.probes c.in_ok-model_of-in-Ok.ensures

pub returns-in-Err : goal.returns-in-Err
returns-in-Err c = late_end c.args.input.now c.args.tokens.now c.args.tree.now c.requires.tokens c.requires.tree c.in_ok-file.file c.in_ok-file.ensures _ _ c.in-Err.end c.in-Err.ensures
