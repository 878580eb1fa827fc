use Rattle.std.proofs.Common.{◌+◌, List, take, [], ◌∷◌, map, sym, ap, ◌∙◌, subst}
use Rattle.std.proofs.lemmas.List.{map-append}
use Rattle.std.specs.Prelude.{Result}
use Rattle.pepa_rates.specs.declared.rate.Rate.{Rate}
use Rattle.pepa_resolver.specs.declared.values.Unvalued.{Unvalued}
use Rattle.indexmap.specs.IndexMap.{keys}
use Rattle.pepa_reader.specs.Trees.{rate_line_of, rate_node_of}
use Rattle.token_grammar.specs.Terminals.{name_at}
use Rattle.pepa_resolver.specs.Outcomes.{Outcome, rate_outcome, AreOutcomes}
use Rattle.pepa_resolver.specs.Values.{outcome_of, named_in}
use Rattle.pepa_resolver.proofs.OutcomeLists.{line_more}
use Rattle.pepa_resolver.proofs.lines.line_values.Goals as goal

pub loop-line-preserved : goal.loop-line-preserved
loop-line-preserved c =
    let source = c.args.source in
    let name = name_at source.input.now source.tokens.now in
    let values = c.loop-line.values in
    let value = c.rate-value.result in
    let names = keys c.args.names.now in
    let tree = rate_node_of c.line-item.result.rate in
    let judged = c.rate-value.ensures ∙ ap (λ (vs : List (Result Rate Unvalued)). rate_outcome source.tokens.now (λ i. named_in names (map outcome_of vs) (name i)) tree) c.as_slice.ensures in
    subst (λ (outcomes : List (Outcome Rate)). AreOutcomes source.tokens.now name (map rate_line_of (take (c.loop-line.line-index + 1) c.args.lines.now)) outcomes)
    (sym (ap (map outcome_of) c.in_ok-push.ensures.ok ∙ map-append outcome_of values (value ∷ [])))
    (line_more source.tokens.now name c.args.lines.now c.loop-line.line-index c.line-item.result names (map outcome_of values) (outcome_of value)
    c.loop-line-test.true c.line-item.is c.requires.names c.loop-line.invariant judged)
