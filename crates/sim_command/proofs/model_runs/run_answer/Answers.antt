use Rattle.std.proofs.Common.{inl, subst}
use Rattle.sim_replication.specs.declared.ran.Outcome.{Outcome}
use Rattle.sim_workers.specs.AllRuns.{AllRuns}
use Rattle.sim_command.proofs.Answers.{run_is_reported}
use Rattle.sim_command.proofs.model_runs.run_answer.Goals as goal

pub report_answer-requires-clause-runs : goal.report_answer-requires-clause-runs
report_answer-requires-clause-runs c =
    let all = subst (λ (o : Outcome). AllRuns c.args.model.now c.args.order.now o) c.in-Finished.is c.in_ok-outcome.ensures in
    rw c.as_slice.ensures (c.can_be_summed_up.ensures.runs c.args.model.now c.args.order.now c.in-Finished.rans all)

pub report_answer-requires-clause-passages : goal.report_answer-requires-clause-passages
report_answer-requires-clause-passages c =
    let all = subst (λ (o : Outcome). AllRuns c.args.model.now c.args.order.now o) c.in-Finished.is c.in_ok-outcome.ensures in
    rw c.as_slice.ensures (c.can_be_summed_up.ensures.passages c.args.model.now c.args.order.now c.in-Finished.rans all)

pub returns-in-Finished : goal.returns-in-Finished
returns-in-Finished c =
    let all = subst (λ (o : Outcome). AllRuns c.args.model.now c.args.order.now o) c.in-Finished.is c.in_ok-outcome.ensures in
    run_is_reported c.args.model.now c.args.order.now c.in-Finished.rans c.report_answer.result all
    (rw c.as_slice.ensures at c.report_answer.ensures)

pub returns-in-Stopped : goal.returns-in-Stopped
returns-in-Stopped c =
    let stopped = subst (λ (o : Outcome). AllRuns c.args.model.now c.args.order.now o) c.in-Stopped.is c.in_ok-outcome.ensures in
    inl (record { number = c.in-Stopped.number; stop = c.in-Stopped.stop; outcome = stopped; refused = c.refusal.ensures })
