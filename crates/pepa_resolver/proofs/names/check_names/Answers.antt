use Rattle.std.proofs.lemmas.Result.{err_from_is_err_and}
use Rattle.pepa_reader.specs.Trees.{file_node_of}
use Rattle.pepa_resolver.proofs.NamesSteps.{passed, stops_at_unknown, known_names, stops_at_tau, fine_sets}
use Rattle.pepa_resolver.proofs.names.check_names.Goals as goal

pub returns-in_err-names : goal.returns-in_err-names
returns-in_err-names c =
    let p = err_from_is_err_and c.from_residual.result c.from_residual.ensures.1 in
    rw (p.1, p.2) c.in_err-names.ensures

pub returns-in_err-refuse : goal.returns-in_err-refuse
returns-in_err-refuse c =
    let p = err_from_is_err_and c.from_residual-in_err-refuse.result c.from_residual-in_err-refuse.ensures.1 in
    rw (p.1, p.2) (stops_at_unknown c.args.source.now.input.now c.args.source.now.tokens.now (file_node_of c.args.tree.now) c.unknown_name-unknown.result c.in_err-refuse.field-0.0
    c.in_ok-names.ensures.0 c.unknown_name-unknown.ensures c.in_err-refuse.ensures)

pub returns-in_err-refuse-2 : goal.returns-in_err-refuse-2
returns-in_err-refuse-2 c =
    let p = err_from_is_err_and c.from_residual-in_err-refuse-2.result c.from_residual-in_err-refuse-2.ensures.1 in
    rw (p.1, p.2) (stops_at_tau c.args.source.now.input.now c.args.source.now.tokens.now (file_node_of c.args.tree.now) c.tau_in_sets-tau.result c.in_err-refuse-2.field-0.0
    (known_names c.args.source.now.input.now c.args.source.now.tokens.now (file_node_of c.args.tree.now) c.unknown_name-unknown.result
    c.in_ok-names.ensures.0 c.unknown_name-unknown.ensures (passed _ _ _ c.in_ok-refuse.ensures)) c.tau_in_sets-tau.ensures c.in_err-refuse-2.ensures)

pub returns : goal.returns
returns c = (
  fine_sets c.args.source.now.input.now c.args.source.now.tokens.now (file_node_of c.args.tree.now) c.tau_in_sets-tau.result
      (known_names c.args.source.now.input.now c.args.source.now.tokens.now (file_node_of c.args.tree.now) c.unknown_name-unknown.result
      c.in_ok-names.ensures.0 c.unknown_name-unknown.ensures (passed _ _ _ c.in_ok-refuse.ensures)) c.tau_in_sets-tau.ensures (passed _ _ _ c.in_ok-refuse-2.ensures),
  c.in_ok-names.ensures.1,
)
