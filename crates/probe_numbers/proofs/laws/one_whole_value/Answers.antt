use Rattle.probe_numbers.proofs.WholeNumbers.{whole_at_is}
use Rattle.probe_numbers.proofs.laws.one_whole_value.Goals as goal

pub returns : goal.returns
returns c = whole_at_is
