use Rattle.probe_attach.proofs.FirstTerms.{system_can_expand, first_of_model}
use Rattle.probe_attach.proofs.FirstTerms as terms
use Rattle.probe_attach.proofs.first_state.attach.Goals as goal

pub expanded_term-requires : goal.expanded_term-requires
expanded_term-requires c = system_can_expand c.args.model.now c.recall_invariant.ensures _ c.system.ensures

pub returns-clause-of_model : goal.returns-clause-of_model
returns-clause-of_model c = first_of_model c.args.model.now c.recall_invariant.ensures _ c.expanded_term.result c.system.ensures c.expanded_term.ensures

pub returns-clause-first : goal.returns-clause-first
returns-clause-first c = terms.first_term c.args.model.now c.recall_invariant.ensures _ c.expanded_term.result c.system.ensures c.expanded_term.ensures
