use Rattle.std.proofs.Common.{ap, map, ◌∙◌}
use Rattle.std.proofs.lemmas.Result.{err_from_is_err_and}
use Rattle.pepa_reader.specs.Trees.{file_node_of}
use Rattle.token_grammar.specs.Terminals.{name_at}
use Rattle.pepa_resolver.proofs.NamesSteps.{rates_at_are, constants_at_are, passed, neither, limits, twice_in, stops_at_limits, stops_at_twice, fine_names}
use Rattle.pepa_resolver.proofs.names.names_of.Goals as goal

pub returns-in_err-refuse : goal.returns-in_err-refuse
returns-in_err-refuse c =
    let p = err_from_is_err_and c.from_residual-in_err-refuse.result c.from_residual-in_err-refuse.ensures.1 in
    rw (p.1, p.2) (stops_at_limits c.args.source.now.input.now c.args.source.now.tokens.now (file_node_of c.args.tree.now) c.too_many-too_many.result c.in_err-refuse.field-0.0
    (limits c.args.source.now.input.now c.args.source.now.tokens.now (file_node_of c.args.tree.now) c.as_slice-3.result.now c.as_slice-4.result.now c.too_many-too_many.result
    (rates_at_are c.as_slice-3.result.now c.in_ok-rates_at.rates_at c.as_slice.result.now c.args.tree.now.rates c.as_slice-3.ensures c.in_ok-rates_at.ensures c.as_slice.ensures)
    (constants_at_are c.as_slice-4.result.now c.in_ok-constants_at.constants_at c.as_slice-2.result.now c.args.tree.now.processes c.as_slice-4.ensures c.in_ok-constants_at.ensures c.as_slice-2.ensures) c.too_many-too_many.ensures) c.in_err-refuse.ensures)

pub returns-in_err-refuse-2 : goal.returns-in_err-refuse-2
returns-in_err-refuse-2 c =
    let p = err_from_is_err_and c.from_residual-in_err-refuse-2.result c.from_residual-in_err-refuse-2.ensures.1 in
    rw (p.1, p.2) (stops_at_twice c.args.source.now.input.now c.args.source.now.tokens.now (file_node_of c.args.tree.now) c.too_many-too_many.result c.least-twice.result c.in_err-refuse-2.field-0.0
    (limits c.args.source.now.input.now c.args.source.now.tokens.now (file_node_of c.args.tree.now) c.as_slice-3.result.now c.as_slice-4.result.now c.too_many-too_many.result
    (rates_at_are c.as_slice-3.result.now c.in_ok-rates_at.rates_at c.as_slice.result.now c.args.tree.now.rates c.as_slice-3.ensures c.in_ok-rates_at.ensures c.as_slice.ensures)
    (constants_at_are c.as_slice-4.result.now c.in_ok-constants_at.constants_at c.as_slice-2.result.now c.args.tree.now.processes c.as_slice-4.ensures c.in_ok-constants_at.ensures c.as_slice-2.ensures) c.too_many-too_many.ensures) (passed _ _ _ c.in_ok-refuse.ensures)
    (twice_in c.args.source.now.input.now c.args.source.now.tokens.now (file_node_of c.args.tree.now) c.as_slice-5.result.now c.as_slice-6.result.now c.in_ok-rates.rates.repeated c.in_ok-constants.constants.repeated c.least-twice.result
    (rates_at_are c.as_slice-5.result.now c.in_ok-rates_at.rates_at c.as_slice.result.now c.args.tree.now.rates c.as_slice-5.ensures c.in_ok-rates_at.ensures c.as_slice.ensures)
    (constants_at_are c.as_slice-6.result.now c.in_ok-constants_at.constants_at c.as_slice-2.result.now c.args.tree.now.processes c.as_slice-6.ensures c.in_ok-constants_at.ensures c.as_slice-2.ensures)
    c.in_ok-rates.ensures.found c.in_ok-constants.ensures.found c.least-twice.ensures) c.in_err-refuse-2.ensures)

pub returns : goal.returns
returns c =
    let none = neither c.in_ok-rates.rates.repeated c.in_ok-constants.constants.repeated c.least-twice.result c.least-twice.ensures (passed _ _ _ c.in_ok-refuse-2.ensures) in
    let name = name_at c.args.source.now.input.now c.args.source.now.tokens.now in (
      fine_names c.args.source.now.input.now c.args.source.now.tokens.now (file_node_of c.args.tree.now) c.too_many-too_many.result c.least-twice.result
          (limits c.args.source.now.input.now c.args.source.now.tokens.now (file_node_of c.args.tree.now) c.as_slice-3.result.now c.as_slice-4.result.now c.too_many-too_many.result
          (rates_at_are c.as_slice-3.result.now c.in_ok-rates_at.rates_at c.as_slice.result.now c.args.tree.now.rates c.as_slice-3.ensures c.in_ok-rates_at.ensures c.as_slice.ensures)
          (constants_at_are c.as_slice-4.result.now c.in_ok-constants_at.constants_at c.as_slice-2.result.now c.args.tree.now.processes c.as_slice-4.ensures c.in_ok-constants_at.ensures c.as_slice-2.ensures) c.too_many-too_many.ensures) (passed _ _ _ c.in_ok-refuse.ensures)
          (twice_in c.args.source.now.input.now c.args.source.now.tokens.now (file_node_of c.args.tree.now) c.as_slice-5.result.now c.as_slice-6.result.now c.in_ok-rates.rates.repeated c.in_ok-constants.constants.repeated c.least-twice.result
          (rates_at_are c.as_slice-5.result.now c.in_ok-rates_at.rates_at c.as_slice.result.now c.args.tree.now.rates c.as_slice-5.ensures c.in_ok-rates_at.ensures c.as_slice.ensures)
          (constants_at_are c.as_slice-6.result.now c.in_ok-constants_at.constants_at c.as_slice-2.result.now c.args.tree.now.processes c.as_slice-6.ensures c.in_ok-constants_at.ensures c.as_slice-2.ensures)
          c.in_ok-rates.ensures.found c.in_ok-constants.ensures.found c.least-twice.ensures) (passed _ _ _ c.in_ok-refuse-2.ensures),
      record {
        rates_are = c.in_ok-rates.ensures.names none.0 ∙ ap (map name) (rates_at_are c.as_slice-5.result.now c.in_ok-rates_at.rates_at c.as_slice.result.now c.args.tree.now.rates c.as_slice-5.ensures c.in_ok-rates_at.ensures c.as_slice.ensures);
        constants_are = c.in_ok-constants.ensures.names none.1 ∙ ap (map name) (constants_at_are c.as_slice-6.result.now c.in_ok-constants_at.constants_at c.as_slice-2.result.now c.args.tree.now.processes c.as_slice-6.ensures c.in_ok-constants_at.ensures c.as_slice-2.ensures);
      },
    )
