use Rattle.intern_core.proofs.Fetching.{length_is}
use Rattle.intern_core.proofs.laws.fetched_lengths_are_of_lists.Goals as goal

pub returns : goal.returns
returns c = length_is
