use Rattle.call_words.specs.declared.command.Command.TheVariants.{Check}
use Rattle.sim_command.proofs.Answers.{text_is_answered}
use Rattle.sim_command.proofs.answer.answer_check.Goals as goal

pub returns-in-Ok : goal.returns-in-Ok
returns-in-Ok c = text_is_answered Check c.args.input.now c.in-Ok.model c.check_answer.result c.in-Ok.ensures c.check_answer.ensures

pub returns-in-Err : goal.returns-in-Err
returns-in-Err c = c.no_model.ensures Check c.args.input.now c.in-Err.ensures
