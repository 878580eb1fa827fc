use Rattle.sim_command.proofs.SomeAnswer.{some_model_answer}
use Rattle.sim_command.proofs.SomeOutcome.{answer_if_read, some_answer}
use Rattle.sim_command.proofs.laws.some_answer.Goals as goal

pub returns-clause-of_model : goal.returns-clause-of_model
returns-clause-of_model c = some_model_answer

pub returns-clause-if_read : goal.returns-clause-if_read
returns-clause-if_read c = answer_if_read

pub returns-clause-of_input : goal.returns-clause-of_input
returns-clause-of_input c = some_answer
