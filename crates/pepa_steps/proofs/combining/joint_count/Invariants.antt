use Rattle.std.proofs.Common.{◌≡◌, ◌≤◌, ◌*◌, ℕ, List, take}
use Rattle.pepa_steps.specs.Moves.{Move}
use Rattle.pepa_steps.specs.Combined.{numbered}
use Rattle.pepa_steps.specs.JointSteps.{HasPartners, pair_count}
use Rattle.pepa_steps.proofs.combining.joint_count.Given as goal

abbrev pub invariant-loop-index : goal.invariant-loop-index
invariant-loop-index l =
    ((vs : List (Move ℕ)) → HasPartners l.types vs l.partners.entries → l.count ≡ pair_count l.types (numbered 0 (take l._index l.ours)) vs)
    × (l.count ≤ l._index * 65535)
