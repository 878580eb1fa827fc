use Rattle.std.proofs.Common.{◌≡◌, ◌<◌, map, length}
use Rattle.probe_words.specs.declared.letter.Letter.TheVariants.{Signal}
use Rattle.probe_hearing.specs.Watching.{labels_in}
use Rattle.probe_hearing.specs.TableHearing.{heard_letters, heard_by}
use Rattle.probe_hearing.proofs.hearing.hear_transition.Given as goal

abbrev pub invariant-loop-left : goal.invariant-loop-left
invariant-loop-left l = (l.heard.state < l.table.states)
    × (heard_letters l.table l.valuation l.heard (map Signal (labels_in l.left)) ≡ heard_by l.table l.state l.valuation l.action l.signals)

abbrev pub decreases-loop-left : goal.decreases-loop-left
decreases-loop-left l = length (labels_in l.left)
