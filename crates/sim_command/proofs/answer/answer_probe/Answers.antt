use Rattle.call_words.specs.declared.command.Command.TheVariants.{Probe}
use Rattle.sim_command.proofs.Answers.{text_is_answered}
use Rattle.sim_command.proofs.answer.answer_probe.Goals as goal

pub returns-in-Ok : goal.returns-in-Ok
returns-in-Ok c = text_is_answered (Probe c.args.ask.now) c.args.input.now c.in-Ok.model c.probe_answer.result c.in-Ok.ensures c.probe_answer.ensures

pub returns-in-Err : goal.returns-in-Err
returns-in-Err c = c.no_model.ensures (Probe c.args.ask.now) c.args.input.now c.in-Err.ensures
