use Rattle.std.proofs.Common.{refl, inr, sym, ◌∙◌}
use Rattle.sim_command.proofs.Endings.{ending}
use Rattle.sim_command.proofs.top_call.run_command.Goals as goal

pub returns-else-reads_source-clause-ending : goal.returns-else-reads_source-clause-ending
returns-else-reads_source-clause-ending g c = λ words is_command.
    ending words c.args.command.now _ _ _ _ _ is_command (inr (sym c.reads_source.ensures ∙ c.if-reads_source.false, record { bytes = refl; none_failed = refl }, refl)) c.answer_input.ensures.ending
