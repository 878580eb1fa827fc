use Rattle.std.proofs.Common.{take}
use Rattle.std.proofs.lemmas.List.{take_all}
use Rattle.indexmap.specs.IndexMap.{keys}
use Rattle.pepa_reader.specs.Trees.{process_node_of}
use Rattle.token_grammar.specs.Terminals.{name_at}
use Rattle.pepa_resolver.specs.Finding.{IsUnlistedIn}
use Rattle.pepa_resolver.proofs.FileLines.{bodies_of, some_none, some_more, bodies_more}
use Rattle.pepa_resolver.proofs.unknown.unlisted_in_processes.Goals as goal

pub loop-line-init : goal.loop-line-init
loop-line-init c = some_none (IsUnlistedIn (name_at c.args.source.now.input.now c.args.source.now.tokens.now) (keys c.args.constants.now) (keys c.args.rates.now))

pub loop-line-preserved : goal.loop-line-preserved
loop-line-preserved c =
    let lines = c.as_slice-line-items.result.now in
    rw (bodies_more lines c.loop-line.line-index c.line-item.result c.loop-line-test.true c.line-item.is)
    (some_more (IsUnlistedIn (name_at c.args.source.now.input.now c.args.source.now.tokens.now) (keys c.args.constants.now) (keys c.args.rates.now))
    (bodies_of (take c.loop-line.line-index lines)) (process_node_of c.line-item.result.body) c.loop-line.found c.unlisted_in_process-here.result c.least-found.result
    c.loop-line.invariant c.unlisted_in_process-here.ensures c.least-found.ensures)

pub returns : goal.returns
returns c =
    some_more (IsUnlistedIn (name_at c.args.source.now.input.now c.args.source.now.tokens.now) (keys c.args.constants.now) (keys c.args.rates.now))
    (bodies_of c.args.tree.now.processes) (process_node_of c.args.tree.now.system) c.loop-line.found c.unlisted_in_process-last.result c.least.result
    (rw (take_all c.loop-line.line-index c.as_slice-line-items.result.now c.loop-line-test.false, c.as_slice-line-items.ensures) at c.loop-line.invariant)
    c.unlisted_in_process-last.ensures c.least.ensures
