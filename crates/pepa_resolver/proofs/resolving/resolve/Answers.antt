use Rattle.std.proofs.lemmas.Result.{err_from_is_err_and}
use Rattle.pepa_reader.specs.Trees.{file_node_of}
use Rattle.pepa_resolver.proofs.FileSizes.{resolved}
use Rattle.pepa_resolver.proofs.resolving.resolve.Goals as goal

pub returns-in_err-names : goal.returns-in_err-names
returns-in_err-names c =
    let p = err_from_is_err_and c.from_residual.result c.from_residual.ensures.1 in
    rw (p.1, p.2) c.in_err-names.ensures

pub returns-in-Ok : goal.returns-in-Ok
returns-in-Ok c =
    resolved c.args.input.now c.args.tokens.now (file_node_of c.args.tree.now) c.in_ok-names.names c.in-Ok.named c.joined.result c.in_ok-names.ensures.0 c.in_ok-names.ensures.1 c.in-Ok.ensures c.joined.ensures
