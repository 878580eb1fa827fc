use Rattle.std.proofs.Common.{Err, inl, subst}
use Rattle.sim_command.specs.declared.model_reading.ModelFault.{ModelFault}
use Rattle.sim_command.specs.ModelFaults.{ReadsModel}
use Rattle.sim_command.proofs.answer.no_model.Goals as goal

pub returns-in-Refused : goal.returns-in-Refused
returns-in-Refused c = λ command input h.
    inl (record { place = c.in-Refused.place; name = c.in-Refused.name; is_fault = subst (λ (f : ModelFault). ReadsModel input (Err f)) c.in-Refused.is h; refused = c.refusal.ensures })
