use Rattle.std.proofs.Common.{[], sym}
use Rattle.std.proofs.lemmas.Option.{get_or_from_slice_get}
use Rattle.pepa_text.proofs.sets.types_of.Goals as goal

pub returns-clause-set : goal.returns-clause-set
returns-clause-set c = sym (get_or_from_slice_get c.args.model.now.sets c.args.number c.set.result.now [] c.set.ensures.stored)
