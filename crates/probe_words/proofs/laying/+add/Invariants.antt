use Rattle.std.proofs.Common.{◌+◌, ◌*◌}
use Rattle.probe_words.specs.Laying.{pattern_height}
use Rattle.probe_words.specs.Twins.{pattern_of}
use Rattle.probe_words.proofs.laying.+add.Given as goal

abbrev pub decreases-add : goal.decreases-add
decreases-add l = 128 * pattern_height (pattern_of l.expr.now)

abbrev pub decreases-add_row : goal.decreases-add_row
decreases-add_row l = 128 * pattern_height (pattern_of l.inner.now) + l.count + 1

abbrev pub decreases-add_tail : goal.decreases-add_tail
decreases-add_tail l = 128 * pattern_height (pattern_of l.inner.now) + l.count + 1
