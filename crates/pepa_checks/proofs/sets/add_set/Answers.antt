use Rattle.std.proofs.Common.{ap, ◌∙◌}
use Rattle.std.specs.Map.{keys_of}
use Rattle.indexmap.specs.IndexMap.{keys}
use Rattle.pepa_resolver.specs.NumberSteps.{with_name}
use Rattle.pepa_resolver.proofs.NumberNames.{keys-insert}
use Rattle.pepa_checks.proofs.sets.add_set.Goals as goal

pub returns : goal.returns
returns c =
    ap keys_of c.in_ok-insert.ensures.entries ∙ keys-insert c.args.sets.now.entries c.in_ok-set.set tt
    ∙ ap (with_name (keys c.args.sets.now)) c.in_ok-set.ensures
