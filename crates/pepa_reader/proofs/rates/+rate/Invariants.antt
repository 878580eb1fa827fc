use Rattle.std.proofs.Common.{◌+◌, ◌-◌, ◌*◌, length, drop}
use Rattle.token_grammar.specs.Cursors.{kinds_of}
use Rattle.pepa_reader.specs.Reading.{IsProduct, IsSum}
use Rattle.pepa_reader.specs.Reading.{EndsProduct}
use Rattle.pepa_reader.proofs.rates.+rate.Given as goal

abbrev pub decreases-factor : goal.decreases-factor
decreases-factor l = 4 * (length (kinds_of l.text.now) - l.at)

abbrev pub decreases-product : goal.decreases-product
decreases-product l = 4 * (length (kinds_of l.text.now) - l.at) + 1

abbrev pub decreases-sum : goal.decreases-sum
decreases-sum l = 4 * (length (kinds_of l.text.now) - l.at) + 2

abbrev pub invariant-product-loop-behind : goal.invariant-product-loop-behind
invariant-product-loop-behind l = IsProduct (kinds_of l.text) l.at l.read

abbrev pub decreases-product-loop-behind : goal.decreases-product-loop-behind
decreases-product-loop-behind l = length (kinds_of l.text) - l.read.next

abbrev pub invariant-sum-loop-behind : goal.invariant-sum-loop-behind
invariant-sum-loop-behind l = record { sums : IsSum (kinds_of l.text) l.at l.read; ends : EndsProduct (drop l.read.next (kinds_of l.text)) }

abbrev pub decreases-sum-loop-behind : goal.decreases-sum-loop-behind
decreases-sum-loop-behind l = length (kinds_of l.text) - l.read.next
