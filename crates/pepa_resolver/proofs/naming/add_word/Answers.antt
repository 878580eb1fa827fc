use Rattle.std.proofs.Common.{ap, ◌∙◌}
use Rattle.std.specs.Map.{keys_of}
use Rattle.indexmap.specs.IndexMap.{keys}
use Rattle.pepa_resolver.specs.NumberSteps.{with_name}
use Rattle.pepa_resolver.proofs.NumberNames.{keys-insert}
use Rattle.pepa_resolver.proofs.naming.add_word.Goals as goal

pub returns : goal.returns
returns c =
    ap keys_of c.in_ok-insert.ensures.entries ∙ keys-insert c.args.actions.now.entries c.in_ok-name.name tt
    ∙ ap (with_name (keys c.args.actions.now)) (c.in_ok-name.ensures ∙ c.name.ensures)
