use Rattle.pepa_steps.proofs.action_rates.+component_rates.Given as goal

abbrev pub decreases-component_rates : goal.decreases-component_rates
decreases-component_rates l = l.depth
