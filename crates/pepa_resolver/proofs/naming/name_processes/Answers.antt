use Rattle.std.proofs.Common.{List, [], map, sym, ap, ◌∙◌, ◌≡◌}
use Rattle.std.specs.Prelude.{Result}
use Rattle.indexmap.specs.IndexMap.{keys}
use Rattle.pepa_rates.specs.declared.rate.Rate.{Rate}
use Rattle.pepa_reader.specs.declared.trees.ProcessLine.{ProcessLine}
use Rattle.pepa_reader.specs.Trees.{process_line_of, file_node_of}
use Rattle.pepa_resolver.specs.declared.values.Unvalued.{Unvalued}
use Rattle.token_grammar.specs.Terminals.{name_at}
use Rattle.pepa_resolver.specs.Values.{outcome_of}
use Rattle.pepa_resolver.specs.Named.{Naming, named}
use Rattle.pepa_resolver.specs.NumberSteps.{bodies_by}
use Rattle.pepa_resolver.proofs.NumberSizes.{numbers_small}
use Rattle.pepa_resolver.proofs.NumberedParts.{made, kept, kept_is, bad_rate, valued_file}
use Rattle.pepa_resolver.proofs.naming.name_processes.Goals as goal

pub line_values-requires-clause-small : goal.line_values-requires-clause-small
line_values-requires-clause-small c = numbers_small c.args.source.now.input.now c.args.source.now.tokens.now c.requires.tokens

pub bodies-requires : goal.bodies-requires
bodies-requires c = numbers_small c.args.source.now.input.now c.args.source.now.tokens.now c.requires.tokens

pub process-requires : goal.process-requires
process-requires c = numbers_small c.args.source.now.input.now c.args.source.now.tokens.now c.requires.tokens

pub returns-in-Some : goal.returns-in-Some
returns-in-Some c =
    let input = c.args.source.now.input.now in
    let tokens = c.args.source.now.tokens.now in
    let file = file_node_of c.args.tree.now in
    let rates = keys c.args.names.now.rates in
    let outcomes = map outcome_of c.in_ok-values.values in
    let are = rw c.as_slice.ensures at c.in_ok-values.ensures in
    let first = rw (c.as_slice-3.ensures, c.as_slice-4.ensures) at c.bad_line-bad.ensures in
    let last = kept_is input tokens file rates outcomes c.requires.names.rates_are are (map outcome_of c.as_slice-2.result.now) c.bad_line-bad.result c.bodies.new.bad c.process.new.bad (map process_line_of c.as_slice-5.result.now)
    (ap (map outcome_of) c.as_slice-2.ensures) (ap (map process_line_of) c.as_slice-5.ensures) c.in_ok-bodies.ensures.bad c.in_ok-system.ensures.bad in
    bad_rate input tokens file rates outcomes c.requires.names.rates_are are c.bad_line-bad.result c.in-Some.bad first (sym last ∙ c.in-Some.is)

pub returns-in-None : goal.returns-in-None
returns-in-None c =
    let input = c.args.source.now.input.now in
    let tokens = c.args.source.now.tokens.now in
    let file = file_node_of c.args.tree.now in
    let rates = keys c.args.names.now.rates in
    let outcomes = map outcome_of c.in_ok-values.values in
    let are = rw c.as_slice.ensures at c.in_ok-values.ensures in
    let first = rw (c.as_slice-3.ensures, c.as_slice-4.ensures) at c.bad_line-bad.ensures in
    let last = kept_is input tokens file rates outcomes c.requires.names.rates_are are (map outcome_of c.as_slice-2.result.now) c.bad_line-bad.result c.bodies.new.bad c.process.new.bad (map process_line_of c.as_slice-5.result.now)
    (ap (map outcome_of) c.as_slice-2.ensures) (ap (map process_line_of) c.as_slice-5.ensures) c.in_ok-bodies.ensures.bad c.in_ok-system.ensures.bad in
    let constants = keys c.args.names.now.constants in
    let actions = keys c.in_ok-actions.actions in
    let naming : List (Result Rate Unvalued) → Naming = λ values. made (name_at input tokens) tokens file [] constants actions rates (map outcome_of values) in
    valued_file input tokens file rates outcomes c.requires.names.rates_are are
    (record { actions = c.in_ok-actions.actions; bodies = c.in_ok-bodies.bodies; system = c.in_ok-system.system }) constants c.bad_line-bad.result first (sym last ∙ c.in-None.is)
    c.requires.fine.0.1 c.requires.names.constants_are c.in_ok-actions.ensures
    (c.in_ok-bodies.ensures.bodies
    ∙ ap (λ (values : List (Result Rate Unvalued)). bodies_by (naming values) (map process_line_of c.as_slice-5.result.now)) c.as_slice-2.ensures
    ∙ ap (λ (lines : List ProcessLine). bodies_by (naming c.in_ok-values.values) (map process_line_of lines)) c.as_slice-5.ensures)
    (c.in_ok-system.ensures.made ∙ ap (λ (values : List (Result Rate Unvalued)). named (naming values) file.system) c.as_slice-2.ensures)
