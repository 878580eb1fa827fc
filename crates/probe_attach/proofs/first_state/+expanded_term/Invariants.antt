use Rattle.probe_attach.proofs.first_state.+expanded_term.Given as goal

abbrev pub decreases-expanded_term : goal.decreases-expanded_term
decreases-expanded_term l = l.depth
