use Rattle.std.proofs.Common.{ℕ, take}
use Rattle.std.specs.List.{Contains}
use Rattle.std.proofs.lemmas.List.{take_all}
use Rattle.pepa_reader.specs.Trees.{ProcessNode, process_node_of, file_node_of}
use Rattle.pepa_resolver.specs.Parts.{set_words_in}
use Rattle.pepa_resolver.specs.NamesAnswers.{IsTau}
use Rattle.pepa_resolver.proofs.FileLines.{bodies_of, some_none, some_more, bodies_more, tau_in_file}
use Rattle.pepa_resolver.proofs.sets.tau_in_sets.Goals as goal

pub loop-line-init : goal.loop-line-init
loop-line-init c =
    let stands = λ (process : ProcessNode) (i : ℕ). Contains (set_words_in process) i × IsTau c.args.source.now.input.now c.args.source.now.tokens.now i in
    some_none stands

pub loop-line-preserved : goal.loop-line-preserved
loop-line-preserved c =
    let stands = λ (process : ProcessNode) (i : ℕ). Contains (set_words_in process) i × IsTau c.args.source.now.input.now c.args.source.now.tokens.now i in
    let lines = c.as_slice-line-items.result.now in
    rw (bodies_more lines c.loop-line.line-index c.line-item.result c.loop-line-test.true c.line-item.is)
    (some_more stands (bodies_of (take c.loop-line.line-index lines)) (process_node_of c.line-item.result.body) c.loop-line.found c.tau_in_process-here.result c.least-found.result
    c.loop-line.invariant c.tau_in_process-here.ensures c.least-found.ensures)

pub returns : goal.returns
returns c =
    let stands = λ (process : ProcessNode) (i : ℕ). Contains (set_words_in process) i × IsTau c.args.source.now.input.now c.args.source.now.tokens.now i in
    tau_in_file (IsTau c.args.source.now.input.now c.args.source.now.tokens.now) (file_node_of c.args.tree.now) c.least.result
    (some_more stands (bodies_of c.args.tree.now.processes) (process_node_of c.args.tree.now.system) c.loop-line.found c.tau_in_process-last.result c.least.result
    (rw (take_all c.loop-line.line-index c.as_slice-line-items.result.now c.loop-line-test.false, c.as_slice-line-items.ensures) at c.loop-line.invariant)
    c.tau_in_process-last.ensures c.least.ensures)
