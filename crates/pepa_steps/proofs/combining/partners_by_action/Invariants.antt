use Rattle.std.proofs.Common.{take}
use Rattle.pepa_steps.specs.Combined.{numbered}
use Rattle.pepa_steps.specs.JointSteps.{HasPartners}
use Rattle.pepa_steps.proofs.combining.partners_by_action.Given as goal

abbrev pub invariant-loop-index : goal.invariant-loop-index
invariant-loop-index l = HasPartners l.types (numbered 0 (take l.index l.entries)) l.partners.entries
