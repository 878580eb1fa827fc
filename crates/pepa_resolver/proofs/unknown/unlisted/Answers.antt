use Rattle.std.proofs.Common.{sym, ◌∙◌}
use Rattle.indexmap.specs.IndexMap.{keys}
use Rattle.token_grammar.specs.Terminals.{name_at}
use Rattle.pepa_resolver.proofs.Listed.{unlisted_none, unlisted_below, unlisted_nowhere}
use Rattle.pepa_resolver.proofs.unknown.unlisted.Goals as goal

pub returns-in-Some : goal.returns-in-Some
returns-in-Some c =
    unlisted_none (name_at c.args.source.now.input.now c.args.source.now.tokens.now) (keys c.args.table.now) c.args.above c.args.at
    c.in-Some.place (sym c.position.ensures ∙ c.in-Some.is) c.if-place-above.true

pub returns-in_default : goal.returns-in_default
returns-in_default c =
    unlisted_below (name_at c.args.source.now.input.now c.args.source.now.tokens.now) (keys c.args.table.now) c.args.above c.args.at
    c.in-Some.place (sym c.position.ensures ∙ c.in-Some.is) c.if-place-above.false

pub returns-in_default-2 : goal.returns-in_default-2
returns-in_default-2 c =
    unlisted_nowhere (name_at c.args.source.now.input.now c.args.source.now.tokens.now) (keys c.args.table.now) c.args.above c.args.at
    (sym c.position.ensures ∙ c.in_default.is)
