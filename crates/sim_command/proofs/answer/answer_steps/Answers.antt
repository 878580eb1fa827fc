use Rattle.call_words.specs.declared.command.Command.TheVariants.{Steps}
use Rattle.sim_command.proofs.Answers.{text_is_answered}
use Rattle.sim_command.proofs.answer.answer_steps.Goals as goal

pub returns-in-Ok : goal.returns-in-Ok
returns-in-Ok c = text_is_answered Steps c.args.input.now c.in-Ok.model c.steps_answer.result c.in-Ok.ensures c.steps_answer.ensures

pub returns-in-Err : goal.returns-in-Err
returns-in-Err c = c.no_model.ensures Steps c.args.input.now c.in-Err.ensures
