-- What `run` answers for a model, and what `gen` answers.
use Rattle.std.specs.Prelude.{ℕ, List, ◌⊎◌}
use Rattle.model_maker.specs.MadeModel.{made_text}
use Rattle.pepa_model.specs.PepaModel.{PepaModel}
use Rattle.sim_space.specs.declared.stop.Stop.{Stop}
use Rattle.sim_replication.specs.declared.order.Order.{Order}
use Rattle.sim_replication.specs.declared.ran.Ran.{Ran}
use Rattle.sim_replication.specs.declared.ran.Outcome.TheVariants.{Finished, Stopped}
use Rattle.sim_workers.specs.AllRuns.{AllRuns}
use Rattle.sim_histograms.specs.Summaries.{IsSummary}
use Rattle.sim_histograms.specs.declared.summaries.Summary.{Summary}
use Rattle.sim_report.specs.Report.{report_text_of}
use Rattle.sim_report.specs.declared.fault.Fault.TheVariants.{RunStopped}
use Rattle.sim_command.specs.declared.answered.Answered.{Answered}
use Rattle.sim_command.specs.AnswerForms.{IsRefusalAnswer, IsFineAnswer}

-- status 6: this replication is the first that stops, and for this reason
pub record IsRunStopped (m : PepaModel) (order : Order) (answered : Answered) : Type 0 where
  pub number : ℕ
  pub stop : Stop
  pub outcome : AllRuns m order (Stopped number stop)
  pub refused : IsRefusalAnswer answered 6 (RunStopped number stop)

-- the report of the summary of these replications, with status 0
pub record IsReportOf (order : Order) (rans : List Ran) (answered : Answered) : Type 0 where
  pub summary : Summary
  pub sums_up : IsSummary order rans summary
  pub fine : IsFineAnswer answered (report_text_of summary)

-- status 0: each replication ends, and the report is that of all of them
pub record IsRunReported (m : PepaModel) (order : Order) (answered : Answered) : Type 0 where
  pub rans : List Ran
  pub outcome : AllRuns m order (Finished rans)
  pub report : IsReportOf order rans answered

-- the answer of `run` for a model
abbrev pub IsRunAnswer : PepaModel → Order → Answered → Type 0
IsRunAnswer m order answered = IsRunStopped m order answered ⊎ IsRunReported m order answered

-- the answer of `gen`: status 0, and the made text of this size
abbrev pub IsGenAnswer : ℕ → Answered → Type 0
IsGenAnswer size answered = IsFineAnswer answered (made_text size)
