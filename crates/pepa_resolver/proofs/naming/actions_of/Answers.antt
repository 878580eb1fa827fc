use Rattle.std.proofs.Common.{[], ◌∷◌, ◌++◌, map, flat_map, codes, ◌∙◌}
use Rattle.std.proofs.lemmas.List.{take_all}
use Rattle.indexmap.specs.IndexMap.{keys}
use Rattle.pepa_reader.specs.Trees.{process_node_of}
use Rattle.token_grammar.specs.Terminals.{name_at}
use Rattle.pepa_resolver.proofs.FileLines.{bodies_of}
use Rattle.pepa_resolver.proofs.NumberNames.{processes_more, names_together}
use Rattle.pepa_resolver.specs.Numbers.{words_in}
use Rattle.pepa_resolver.proofs.naming.actions_of.Goals as goal

pub returns : goal.returns
returns c =
    let name = name_at c.args.source.now.input.now c.args.source.now.tokens.now in
    let bodies = bodies_of c.args.tree.now.processes in
    processes_more name (codes "tau" ∷ []) (keys c.loop-line.actions) (keys c.add_words_of-2.new.actions) bodies (process_node_of c.args.tree.now.system)
    (rw (take_all c.loop-line.line-index c.as_slice-line-items.result.now c.loop-line-test.false, c.as_slice-line-items.ensures) at c.loop-line.invariant)
    c.in_ok-add_words_of-2.ensures
    ∙ names_together (codes "tau" ∷ []) (map name (flat_map words_in (bodies ++ process_node_of c.args.tree.now.system ∷ [])))
