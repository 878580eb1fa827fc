use Rattle.pepa_steps.proofs.apparent_rate.+component_rate.Given as goal

abbrev pub decreases-component_rate : goal.decreases-component_rate
decreases-component_rate l = l.depth
