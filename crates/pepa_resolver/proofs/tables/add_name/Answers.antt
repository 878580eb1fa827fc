use Rattle.std.proofs.Common.{◌∙◌}
use Rattle.token_grammar.specs.Terminals.{name_at}
use Rattle.pepa_resolver.proofs.Inserted.{inserted}
use Rattle.pepa_resolver.proofs.tables.add_name.Goals as goal

pub returns : goal.returns
returns c =
    inserted c.args.names.now (name_at c.args.source.now.input.now c.args.source.now.tokens.now c.args.at) tt
    c.insert.new.self c.in_ok-name.name c.in_ok-insert.field-0 c.is_none.result
    (c.in_ok-name.ensures ∙ c.name.ensures) c.in_ok-insert.ensures.entries c.in_ok-insert.ensures.old c.is_none.ensures
