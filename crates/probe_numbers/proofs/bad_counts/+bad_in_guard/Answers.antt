use Rattle.probe_numbers.proofs.FirstIndices.{first_of_guard_number}
use Rattle.probe_numbers.proofs.bad_counts.+bad_in_guard.Goals as goal

pub returns-in-Count : goal.returns-in-Count
returns-in-Count t c = first_of_guard_number c.args.tokens.now c.args.tree.now c.in-Count.which c.in-Count.relation c.in-Count.number c.bad_number.result c.in-Count.is c.bad_number.ensures
