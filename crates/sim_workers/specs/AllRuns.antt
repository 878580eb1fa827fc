-- All replications of an order, one after another: each ends, or one of them is the first that stops.
use Rattle.std.specs.Prelude.{◌≡◌, ℕ, ◌+◌, ◌<◌, ◌≤◌, Result, Ok, Err, Some, List, length, slice_get}
use Rattle.pepa_model.specs.PepaModel.{PepaModel}
use Rattle.sim_space.specs.declared.stop.Stop.{Stop}
use Rattle.sim_replication.specs.declared.order.Order.{Order}
use Rattle.sim_replication.specs.declared.ran.Ran.{Ran}
use Rattle.sim_replication.specs.declared.ran.Outcome.{Outcome}
use Rattle.sim_replication.specs.declared.ran.Outcome.TheVariants.{Finished, Stopped}
use Rattle.sim_replication.specs.Orders.{IsUpTo, numbers_of}
use Rattle.sim_replication.specs.Signals.{TakenJump}
use Rattle.sim_replication.specs.Jumps.{Point}
use Rattle.sim_replication.specs.Runs.{IsRun, IsStoppedRun}

-- the replication of this number ends, and this is what it gives
abbrev pub IsRunNumbered : PepaModel → Order → ℕ → Ran → Type 0
IsRunNumbered m order number ran =
    (taken : List TakenJump) × ((last : Point) × IsRun m order (numbers_of order number) taken last ran)

-- the replication of this number stops, for this reason
abbrev pub IsStopNumbered : PepaModel → Order → ℕ → Stop → Type 0
IsStopNumbered m order number stop =
    (taken : List TakenJump) × ((last : Point) × IsStoppedRun m order (numbers_of order number) taken last stop)

-- these are the replications from number 1 on, in the order of their numbers; each of them ends
abbrev pub AreFirstRuns : PepaModel → Order → List Ran → Type 0
AreFirstRuns m order rans = (k : ℕ) (ran : Ran) → slice_get rans k ≡ Some ran → IsRunNumbered m order (k + 1) ran

-- each replication before this number, from 1 on, ends
abbrev pub EachEndsBefore : PepaModel → Order → ℕ → Type 0
EachEndsBefore m order number =
    (earlier : ℕ) → 1 ≤ earlier → earlier < number → (ran : Ran) × IsRunNumbered m order earlier ran

-- the outcome of an order: each of its replications ends, and these are all of them; or this one is the first that stops
abbrev pub AllRuns : PepaModel → Order → Outcome → Type 0
AllRuns m order (Finished rans) = (length rans ≡ order.runs) × AreFirstRuns m order rans
AllRuns m order (Stopped number stop) =
    IsUpTo number order.runs × IsStopNumbered m order number stop × EachEndsBefore m order number

-- what one replication answers: what it gives, or why it stops
abbrev pub AnswersNumbered : PepaModel → Order → ℕ → Result Ran Stop → Type 0
AnswersNumbered m order number (Ok ran) = IsRunNumbered m order number ran
AnswersNumbered m order number (Err stop) = IsStopNumbered m order number stop
