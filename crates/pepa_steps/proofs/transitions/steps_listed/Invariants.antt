use Rattle.pepa_steps.proofs.Listed.{AreFirst}
use Rattle.pepa_steps.proofs.transitions.steps_listed.Given as goal

abbrev pub invariant-loop-index : goal.invariant-loop-index
invariant-loop-index l = AreFirst l.model l.term l.list.items l.index
