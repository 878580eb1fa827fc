use Rattle.sim_command.proofs.model_runs.report_answer.Goals as goal

pub returns : goal.returns
returns c = record { summary = c.in_ok-summary.summary; sums_up = c.in_ok-summary.ensures.summary; fine = rw c.in_ok-text.ensures at c.fine.ensures }
