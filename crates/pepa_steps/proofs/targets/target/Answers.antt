use Rattle.pepa_steps.proofs.Aims.{ok_then}
use Rattle.pepa_steps.proofs.Listed.{within, target_of_model, target_stands}
use Rattle.pepa_steps.proofs.targets.target.Goals as goal

pub step_target-requires-clause-traced : goal.step_target-requires-clause-traced
step_target-requires-clause-traced c =
    (c.requires.loaded.steps, c.requires.loaded.traced, within c.args.model.now c.recall_invariant.ensures c.args.term.now c.args.buffers.now c.requires.loaded c.args.index c.requires.index)

pub returns-clause-of_model : goal.returns-clause-of_model
returns-clause-of_model c = ok_then c.step_target.result (target_of_model c.args.model.now c.recall_invariant.ensures c.args.term.now c.args.buffers.now c.requires.loaded c.args.index c.requires.index) c.step_target.ensures

pub returns-clause-stands : goal.returns-clause-stands
returns-clause-stands c = ok_then c.step_target.result (target_stands c.args.model.now c.recall_invariant.ensures c.args.term.now c.args.buffers.now c.requires.loaded c.args.index c.requires.index) c.step_target.ensures
