use Rattle.std.proofs.Common.{List, Ok, Err, refl, ◌∙◌, subst}
use Rattle.pepa_rates.specs.declared.rate.Rate.{Rate}
use Rattle.sim_space.specs.Choices.{AnswersWeights}
use Rattle.sim_space.specs.declared.choices.ChoiceEnd.{ChoiceEnd}
use Rattle.sim_space.specs.declared.choices.ChoiceEnd.TheVariants.{Stop}
use Rattle.sim_command.proofs.Printable.{steps_can_print}
use Rattle.sim_command.proofs.Answers.{steps_are_answered, steps_stop}
use Rattle.sim_command.proofs.model_steps.list_answer.Goals as goal

pub steps_text-requires : goal.steps_text-requires
steps_text-requires c = steps_can_print c.args.model.now c.recall_invariant.ensures c.requires.state c.requires.node c.args.list.now c.requires.stands c.requires.steps

pub returns-in-Ok : goal.returns-in-Ok
returns-in-Ok c =
    let same = c.as_slice.ensures ∙ c.in_ok-rates.ensures in
    let weights = subst (λ (rates : List Rate). AnswersWeights rates (Ok c.in-Ok.field-0)) same c.in-Ok.ensures in
    steps_are_answered c.args.model.now c.requires.state c.args.list.now c.in-Ok.field-0 _ c.requires.first c.requires.steps weights refl c.in_ok-steps_text-in-Ok.ensures c.empty.ensures

pub returns-in-Err-Stop : goal.returns-in-Err-Stop
returns-in-Err-Stop c =
    let same = c.as_slice.ensures ∙ c.in_ok-rates.ensures in
    let stops = subst (λ (end : ChoiceEnd). AnswersWeights c.as_slice.result.now (Err end)) c.in-Err-Stop.field-0-is c.in-Err-Stop.ensures in
    let of_steps = subst (λ (rates : List Rate). AnswersWeights rates (Err (Stop c.in-Err-Stop.stop))) same stops in
    steps_stop c.args.model.now c.requires.state c.args.list.now c.in-Err-Stop.stop c.refusal.result c.requires.first c.requires.steps of_steps c.refusal.ensures
