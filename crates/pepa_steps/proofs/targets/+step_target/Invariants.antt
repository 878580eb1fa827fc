use Rattle.pepa_model.specs.Terms.{term_of}
use Rattle.pepa_steps.proofs.Aims.{height_of}
use Rattle.pepa_steps.proofs.targets.+step_target.Given as goal

abbrev pub decreases-step_target : goal.decreases-step_target
decreases-step_target l = height_of (term_of l.term.now)
