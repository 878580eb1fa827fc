-- A replication: jumps from the first state on, one after the other, until one of the checks before a jump ends or stops it.
use Rattle.std.specs.Prelude.{◌≡◌, ⊤, ℕ, ◌<◌, ◌≤◌, ◌⊎◌, Result, Ok, Err, List, [], ◌∷◌, length, take, All}
use Rattle.pepa_model.specs.PepaModel.{PepaModel}
use Rattle.pepa_steps.specs.States.{State}
use Rattle.probe_attach.specs.FirstStates.{IsFirstState}
use Rattle.sim_space.specs.LoadedLists.{IsChoiceList}
use Rattle.sim_space.specs.declared.stop.Stop.{Stop}
use Rattle.sim_space.specs.declared.space.Halt.{Halt}
use Rattle.sim_space.specs.declared.space.Halt.TheVariants as halt
use Rattle.sim_replication.specs.declared.order.Order.{Order}
use Rattle.sim_replication.specs.declared.ran.Ran.{Ran}
use Rattle.sim_replication.specs.declared.ran.Ending.{Ending}
use Rattle.sim_replication.specs.declared.ran.Ending.TheVariants.{Done, Deadlock, JumpLimit}
use Rattle.sim_replication.specs.Signals.{TakenJump, passages_of}
use Rattle.sim_replication.specs.Jumps.{Point, JumpsTo, StopsBy}

-- these jumps, one after the other, lead from the first point to the last
abbrev pub Walk : PepaModel → (ℕ → ℕ) → Point → List TakenJump → Point → Type 0
Walk m at p [] q = p ≡ q
Walk m at p (t ∷ ts) q = (r : Point) × JumpsTo m at p t r × Walk m at r ts q

-- fewer passages have ended, and fewer jumps were taken, than the order has
abbrev pub AsksForMore : Order → List TakenJump → Type 0
AsksForMore order taken = (length (passages_of taken).ended < order.passages) × (length taken < order.jumps)

-- where a replication begins
abbrev pub begin_at : State → Point
begin_at state = record { state = state; time = 0; place = 0 }

-- the first jumps of a replication, and the point to which they lead: it visits the state there. At each point before it the
-- order asked for more
pub record BeginsRun (m : PepaModel) (order : Order) (at : ℕ → ℕ) (taken : List TakenJump) (last : Point) : Type 0 where
  pub start : State
  pub is_first : IsFirstState m start
  pub walk : Walk m at (begin_at start) taken last
  pub asks : (k : ℕ) → k < length taken → AsksForMore order (take k taken)

-- how a replication ends at a point, the checks in their order: so many passages have ended; else so many jumps were taken; else no
-- verdict on the state names a stop, and it has no transition
abbrev pub EndsBy : PepaModel → Order → List TakenJump → Point → Ending → Type 0
EndsBy m order taken last Done = order.passages ≤ length (passages_of taken).ended
EndsBy m order taken last JumpLimit = (length (passages_of taken).ended < order.passages) × (order.jumps ≤ length taken)
EndsBy m order taken last Deadlock = AsksForMore order taken × IsChoiceList m last.state []

-- a replication that ended: its jumps, its last point, its passages and how it ended
pub record IsRun (m : PepaModel) (order : Order) (at : ℕ → ℕ) (taken : List TakenJump) (last : Point) (ran : Ran) : Type 0 where
  pub begins : BeginsRun m order at taken last
  pub ends : EndsBy m order taken last ran.ending
  pub passages : ran.passages ≡ (passages_of taken).ended

-- a replication that stopped: its jumps, its last point and the stop, which comes after the checks of passages and of jumps
pub record IsStoppedRun (m : PepaModel) (order : Order) (at : ℕ → ℕ) (taken : List TakenJump) (last : Point) (stop : Stop) : Type 0 where
  pub begins : BeginsRun m order at taken last
  pub asks : AsksForMore order taken
  pub stops : StopsBy m at last stop

-- there is a replication that ends, or one that stops
abbrev pub HasRun : PepaModel → Order → (ℕ → ℕ) → Type 0
HasRun m order at =
    ((taken : List TakenJump) × ((last : Point) × ((ran : Ran) × IsRun m order at taken last ran)))
    ⊎ ((taken : List TakenJump) × ((last : Point) × ((stop : Stop) × IsStoppedRun m order at taken last stop)))

-- each state that the replication visits is one of these
abbrev pub VisitsOnly : PepaModel → Order → (ℕ → ℕ) → (State → Type 0) → Type 0
VisitsOnly m order at Wanted =
    (taken : List TakenJump) (last : Point) → BeginsRun m order at taken last → Wanted last.state

-- each state that was visited was seen, and each from which a jump was taken is kept
abbrev pub HasVisited : (State → Type 0) → (State → Type 0) → List TakenJump → Point → Type 0
HasVisited Seen Kept taken last = All (λ j. Seen j.from × Kept j.from) taken × Seen last.state

-- what a replication answers: its end, or its stop, with what is said of the jumps and of the last point; want of memory and a full space
-- say nothing
abbrev pub AnswersRun : PepaModel → Order → (ℕ → ℕ) → (List TakenJump → Point → Type 0) → Result Ran Halt → Type 0
AnswersRun m order at Also (Ok ran) =
    (taken : List TakenJump) × ((last : Point) × IsRun m order at taken last ran × Also taken last)
AnswersRun m order at Also (Err (halt.Stop s)) =
    (taken : List TakenJump) × ((last : Point) × IsStoppedRun m order at taken last s × Also taken last)
AnswersRun m order at Also (Err _) = ⊤
