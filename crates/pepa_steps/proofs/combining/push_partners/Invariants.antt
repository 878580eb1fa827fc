use Rattle.std.proofs.Common.{map, take}
use Rattle.pepa_steps.specs.Combined.{HasAdded, numbered}
use Rattle.pepa_steps.proofs.CombinedLists.{joint_at}
use Rattle.pepa_steps.proofs.TakenEntries.{at_place}
use Rattle.pepa_steps.proofs.combining.push_partners.Given as goal

abbrev pub invariant-loop-index : goal.invariant-loop-index
invariant-loop-index l =
    HasAdded l.initial.derived l.derived
    (map (joint_at l.our_rate l.their_rate (at_place l.place l.entry) (numbered 0 l.theirs)) (take l.index-index l.index-items))
