use Rattle.std.proofs.Common.{◌∙◌, ap, List, ℕ, map, nat_eq}
use Rattle.probe_words.specs.ProbeTables.{by_first_places}
use Rattle.probe_reader.specs.ProbeTrees.{probe_node_of}
use Rattle.probe_numbers.specs.NumberedProbes.{constant_number, constants_in_probe}
use Rattle.probe_numbers.proofs.CountedConstants.{counted_once}
use Rattle.probe_numbers.proofs.GoodCounts.{has_counts, is_numbered}
use Rattle.probe_numbers.proofs.numbered.number_probe.Goals as goal

pub expression-requires-clause-once : goal.expression-requires-clause-once
expression-requires-clause-once g c =
    counted_once (g.N.ProbeNames.meanings c.args.names.now) (probe_node_of c.args.tree.now) c.as_slice.result.now (c.as_slice.ensures ∙ c.in_ok-add_of_probe.ensures
    ∙ ap (λ (z : List ℕ). by_first_places nat_eq z (map (constant_number (g.N.ProbeNames.meanings c.args.names.now)) (constants_in_probe (probe_node_of c.args.tree.now)))) c.new-counted.ensures)

pub expression-requires-clause-counts : goal.expression-requires-clause-counts
expression-requires-clause-counts g c = has_counts c.args.tokens.now (probe_node_of c.args.tree.now) c.requires.counts

pub returns : goal.returns
returns g c =
    is_numbered c.args.tokens.now (g.N.ProbeNames.meanings c.args.names.now) (probe_node_of c.args.tree.now) (record { expr = c.in_ok-expr.expr; counted = c.add_of_probe.new.counted }) c.as_slice.result.now
    c.as_slice.ensures c.requires.counts c.requires.names
    (c.in_ok-add_of_probe.ensures ∙ ap (λ (z : List ℕ). by_first_places nat_eq z (map (constant_number (g.N.ProbeNames.meanings c.args.names.now)) (constants_in_probe (probe_node_of c.args.tree.now)))) c.new-counted.ensures)
    c.in_ok-expr.ensures
