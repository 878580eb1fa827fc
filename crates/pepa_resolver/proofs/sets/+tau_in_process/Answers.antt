use Rattle.std.proofs.Common.{◌++◌}
use Rattle.pepa_reader.specs.Trees.{process_node_of}
use Rattle.pepa_resolver.specs.Parts.{set_words_in}
use Rattle.pepa_resolver.specs.NamesAnswers.{IsTau}
use Rattle.pepa_resolver.proofs.Findings.{finds_append}
use Rattle.pepa_resolver.proofs.sets.+tau_in_process.Goals as goal

pub returns-in-Choice : goal.returns-in-Choice
returns-in-Choice t c =
    rw c.in-Choice.is (finds_append (IsTau c.args.source.now.input.now c.args.source.now.tokens.now)
    (set_words_in (process_node_of c.in-Choice.left.value)) (set_words_in (process_node_of c.in-Choice.right.value))
    c.tau_in_process-in-Choice.result c.tau_in_process-in-Choice-2.result c.least.result
    (rw c.deref-in-Choice.ensures at c.tau_in_process-in-Choice.ensures) (rw c.deref-in-Choice-2.ensures at c.tau_in_process-in-Choice-2.ensures) c.least.ensures)

pub returns-in-Coop : goal.returns-in-Coop
returns-in-Coop t c =
    let stands = IsTau c.args.source.now.input.now c.args.source.now.tokens.now in
    let left = set_words_in (process_node_of c.in-Coop.left.value) in
    let right = set_words_in (process_node_of c.in-Coop.right.value) in
    rw c.in-Coop.is (finds_append stands left (c.in-Coop.set ++ right) c.tau_in_process-in-Coop-2.result c.least-inside.result c.least-in-Coop.result
    (rw c.deref-in-Coop-2.ensures at c.tau_in_process-in-Coop-2.ensures)
    (finds_append stands c.in-Coop.set right c.tau_among.result c.tau_in_process-in-Coop.result c.least-inside.result
    (rw c.as_slice.ensures at c.tau_among.ensures) (rw c.deref-in-Coop.ensures at c.tau_in_process-in-Coop.ensures) c.least-inside.ensures)
    c.least-in-Coop.ensures)

pub returns-in-Hide : goal.returns-in-Hide
returns-in-Hide t c =
    rw c.in-Hide.is (finds_append (IsTau c.args.source.now.input.now c.args.source.now.tokens.now)
    (set_words_in (process_node_of c.in-Hide.inner.value)) c.in-Hide.set c.tau_in_process-in-Hide.result c.tau_among-in-Hide.result c.least-in-Hide.result
    (rw c.deref-in-Hide.ensures at c.tau_in_process-in-Hide.ensures) (rw c.as_slice-in-Hide.ensures at c.tau_among-in-Hide.ensures) c.least-in-Hide.ensures)
