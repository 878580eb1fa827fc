use Rattle.std.proofs.Common.{map, take}
use Rattle.std.proofs.lemmas.List.{take_all}
use Rattle.indexmap.specs.IndexMap.{keys}
use Rattle.pepa_reader.specs.Trees.{rate_line_of}
use Rattle.token_grammar.specs.Terminals.{name_at}
use Rattle.pepa_resolver.proofs.FileLines.{early_none, early_more, names_above, rate_lines_more}
use Rattle.pepa_resolver.proofs.unknown.early_name.Goals as goal

pub loop-above-init : goal.loop-above-init
loop-above-init c = early_none (name_at c.args.source.now.input.now c.args.source.now.tokens.now)

pub loop-above-preserved : goal.loop-above-preserved
loop-above-preserved c =
    let name = name_at c.args.source.now.input.now c.args.source.now.tokens.now in
    rw (rate_lines_more c.args.lines.now c.loop-above.above c.index-lines-above.result c.loop-above-test.true c.index-lines-above.is)
    (early_more name (map rate_line_of (take c.loop-above.above c.args.lines.now)) (rate_line_of c.index-lines-above.result) (take c.loop-above.above (keys c.args.rates.now))
    c.loop-above.found c.unlisted_in_rate-here.result c.least-found.result
    (names_above name c.args.lines.now (keys c.args.rates.now) c.loop-above.above c.requires) c.loop-above.invariant c.unlisted_in_rate-here.ensures c.least-found.ensures)

pub returns : goal.returns
returns c = rw (take_all c.loop-above.above c.args.lines.now c.loop-above-test.false) at c.loop-above.invariant
