use Rattle.indexmap.specs.IndexMap.{keys}
use Rattle.pepa_reader.specs.Trees.{file_node_of}
use Rattle.token_grammar.specs.Terminals.{name_at}
use Rattle.pepa_resolver.proofs.FileLines.{unknown_in_file}
use Rattle.pepa_resolver.proofs.unknown.unknown_name.Goals as goal

pub early_name-early-requires : goal.early_name-early-requires
early_name-early-requires c = rw c.as_slice.ensures c.requires.rates_are

pub returns : goal.returns
returns c =
    unknown_in_file (name_at c.args.source.now.input.now c.args.source.now.tokens.now) (file_node_of c.args.tree.now) (keys c.args.constants.now) (keys c.args.rates.now)
    c.early_name-early.result c.unlisted_in_processes-late.result c.least.result
    c.requires.constants_are c.requires.rates_are (rw c.as_slice.ensures at c.early_name-early.ensures) c.unlisted_in_processes-late.ensures c.least.ensures
