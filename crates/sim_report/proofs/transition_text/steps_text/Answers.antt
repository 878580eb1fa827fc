use Rattle.std.proofs.Common.{◌∙◌, ap, List}
use Rattle.std.specs.List.{flat_map}
use Rattle.std.proofs.lemmas.List.{take_all}
use Rattle.pepa_model.specs.declared.term.Step.{Step}
use Rattle.sim_report.specs.StepsText.{step_text}
use Rattle.sim_report.proofs.WrittenSteps.{same_text}
use Rattle.sim_report.proofs.transition_text.steps_text.Goals as goal

pub returns : goal.returns
returns c = λ transitions stand.
    c.from_vec.ensures ∙ c.loop-step.invariant
    ∙ ap (λ (steps : List Step). flat_map (step_text c.args.model.now) steps) (take_all _ c.args.steps.now c.loop-step-test.false)
    ∙ same_text c.args.model.now c.args.steps.now transitions stand
