use Rattle.std.proofs.Common.{map, sym, ◌∙◌}
use Rattle.indexmap.specs.IndexMap.{keys}
use Rattle.pepa_resolver.specs.Values.{outcome_of, rate_name_at}
use Rattle.pepa_resolver.proofs.NamedRates.{named_at, named_nowhere}
use Rattle.pepa_resolver.proofs.values.Rates.named.Goals as goal

pub returns-in-Some : goal.returns-in-Some
returns-in-Some c =
    let names = keys c.args.self.now.names.now in
    let values = c.args.self.now.values.now in
    c.line_value.ensures
    ∙ sym (named_at names values (rate_name_at c.args.self.now c.args.at) c.in-Some.line (sym c.position.ensures ∙ c.in-Some.is))

pub returns-in-None : goal.returns-in-None
returns-in-None c =
    let names = keys c.args.self.now.names.now in
    let outcomes = map outcome_of c.args.self.now.values.now in
    sym (named_nowhere names outcomes (rate_name_at c.args.self.now c.args.at) (sym c.position.ensures ∙ c.in-None.is))
