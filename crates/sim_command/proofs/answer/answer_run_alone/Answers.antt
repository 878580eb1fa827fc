use Rattle.std.proofs.Common.{None}
use Rattle.call_words.specs.declared.command.Command.TheVariants.{Run}
use Rattle.sim_command.proofs.Answers.{text_is_answered}
use Rattle.sim_command.proofs.answer.answer_run_alone.Goals as goal

pub returns-in-Ok : goal.returns-in-Ok
returns-in-Ok c = text_is_answered (Run c.args.order.now None) c.args.input.now c.in-Ok.model c.run_answer.result c.in-Ok.ensures c.run_answer.ensures

pub returns-in-Err : goal.returns-in-Err
returns-in-Err c = c.no_model.ensures (Run c.args.order.now None) c.args.input.now c.in-Err.ensures
