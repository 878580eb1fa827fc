use Rattle.std.proofs.Common.{◌∙◌}
use Rattle.pepa_steps.proofs.TypeSets.{search_finds}
use Rattle.pepa_steps.proofs.sets.is_in.Goals as goal

pub returns : goal.returns
returns c = c.is_ok.ensures.value ∙ search_finds c.args.types.now c.args.action _ c.requires c.binary_search.ensures.position
