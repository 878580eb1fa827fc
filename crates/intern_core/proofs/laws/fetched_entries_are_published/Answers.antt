use Rattle.intern_core.proofs.Fetching.{got_is}
use Rattle.intern_core.proofs.laws.fetched_entries_are_published.Goals as goal

pub returns : goal.returns
returns c = got_is
