use Rattle.probe_numbers.specs.BadCounts.{BadCountAt}
use Rattle.probe_numbers.proofs.FirstIndices.{one_first}
use Rattle.probe_numbers.proofs.laws.one_first_bad_count.Goals as goal

pub returns : goal.returns
returns c = λ tokens node a b. one_first (BadCountAt tokens node) a b
