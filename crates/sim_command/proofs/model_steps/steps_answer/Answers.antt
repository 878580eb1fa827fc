use Rattle.pepa_model.specs.Terms.{term_of}
use Rattle.sim_command.proofs.Answers.{part_stops}
use Rattle.sim_command.proofs.model_steps.steps_answer.Goals as goal

pub list_answer-requires : goal.list_answer-requires
list_answer-requires c =
    let first = c.in_ok-term.ensures.first in
    rw c.as_slice.ensures record { state = first.state; first = first.first; node = term_of c.in_ok-term.term; stands = first.stands; steps = c.in-Ok.ensures first.state first.stands }

pub returns-in-Err-Fault : goal.returns-in-Err-Fault
returns-in-Err-Fault c =
    let first = c.in_ok-term.ensures.first in
    part_stops c.args.model.now first.state c.in-Err-Fault.fault c.from-stop.result c.refusal.result first.first
    (rw c.in-Err-Fault.field-0-is at c.in-Err-Fault.ensures first.state first.stands) c.from-stop.ensures c.refusal.ensures
