use Rattle.probe_words.proofs.SizesAgree.{same_sizes}
use Rattle.probe_words.proofs.laws.sizes.Goals as goal

pub returns-clause-positions : goal.returns-clause-positions
returns-clause-positions c = λ p s. let (a, b, d) = same_sizes p s in a

pub returns-clause-first : goal.returns-clause-first
returns-clause-first c = λ p s. let (a, b, d) = same_sizes p s in b
