use Rattle.indexmap.specs.IndexMap.{keys}
use Rattle.pepa_reader.specs.Trees.{rate_node_of, process_node_of}
use Rattle.token_grammar.specs.Terminals.{name_at}
use Rattle.pepa_resolver.proofs.Listed.{all_keys}
use Rattle.pepa_resolver.proofs.UnknownParts.{constant_finds, prefix_finds, sides_find}
use Rattle.pepa_resolver.proofs.unknown.+unlisted_in_process.Goals as goal

pub returns-in-Constant : goal.returns-in-Constant
returns-in-Constant t c =
    rw c.in-Constant.is (constant_finds (name_at c.args.source.now.input.now c.args.source.now.tokens.now) (keys c.args.constants.now) (keys c.args.rates.now)
    c.in-Constant.at c.unlisted.result (rw (all_keys c.args.constants.now.entries c.len.result c.len.ensures.len) at c.unlisted.ensures))

pub returns-in-Prefix : goal.returns-in-Prefix
returns-in-Prefix t c =
    rw c.in-Prefix.is (prefix_finds (name_at c.args.source.now.input.now c.args.source.now.tokens.now) (keys c.args.constants.now) (keys c.args.rates.now)
    c.in-Prefix.at (rate_node_of c.in-Prefix.rate) (process_node_of c.in-Prefix.next.value) c.unlisted_in_rate.result c.unlisted_in_process.result c.least.result
    (rw (all_keys c.args.rates.now.entries c.len-in-Prefix.result c.len-in-Prefix.ensures.len) at c.unlisted_in_rate.ensures) (rw c.deref.ensures at c.unlisted_in_process.ensures) c.least.ensures)

pub returns-in-Choice : goal.returns-in-Choice
returns-in-Choice t c =
    rw c.in-Choice.is (sides_find (name_at c.args.source.now.input.now c.args.source.now.tokens.now) (keys c.args.constants.now) (keys c.args.rates.now)
    (process_node_of c.in-Choice.left.value) (process_node_of c.in-Choice.right.value) c.unlisted_in_process-in-Choice.result c.unlisted_in_process-in-Choice-2.result c.least-in-Choice.result
    (rw c.deref-in-Choice.ensures at c.unlisted_in_process-in-Choice.ensures) (rw c.deref-in-Choice-2.ensures at c.unlisted_in_process-in-Choice-2.ensures) c.least-in-Choice.ensures)

pub returns-in-Coop : goal.returns-in-Coop
returns-in-Coop t c =
    rw c.in-Coop.is (sides_find (name_at c.args.source.now.input.now c.args.source.now.tokens.now) (keys c.args.constants.now) (keys c.args.rates.now)
    (process_node_of c.in-Coop.left.value) (process_node_of c.in-Coop.right.value) c.unlisted_in_process-in-Coop.result c.unlisted_in_process-in-Coop-2.result c.least-in-Coop.result
    (rw c.deref-in-Coop.ensures at c.unlisted_in_process-in-Coop.ensures) (rw c.deref-in-Coop-2.ensures at c.unlisted_in_process-in-Coop-2.ensures) c.least-in-Coop.ensures)

pub returns-in-Hide : goal.returns-in-Hide
returns-in-Hide t c = rw c.in-Hide.is (rw c.deref-in-Hide.ensures at c.unlisted_in_process-in-Hide.ensures)
