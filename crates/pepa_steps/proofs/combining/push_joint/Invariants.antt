use Rattle.std.proofs.Common.{take}
use Rattle.pepa_steps.specs.Moves.{joint_moves}
use Rattle.pepa_steps.specs.Combined.{HasAdded, numbered, rate_at}
use Rattle.pepa_steps.specs.declared.entries.Origin.TheVariants.{Both}
use Rattle.pepa_steps.proofs.combining.push_joint.Given as goal

abbrev pub invariant-loop-index : goal.invariant-loop-index
invariant-loop-index l =
    HasAdded l.initial.derived l.derived
    (joint_moves Both l.types (rate_at l.our_rates.entries) (rate_at l.their_rates.entries) (numbered 0 (take l.index l.ours)) (numbered 0 l.theirs))
