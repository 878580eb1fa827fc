-- One jump of a replication: when, and where to.
use Rattle.std.specs.Prelude.{◌≡◌, ⊤, ℕ, ◌+◌, ◌*◌, ◌/◌, ◌^◌, ◌<◌, ◌≤◌, Option, None, Some, Result, Ok, Err, List, [], length, sum}
use Rattle.pepa_rates.specs.Weights.{common_den}
use Rattle.pepa_model.specs.PepaModel.{PepaModel}
use Rattle.pepa_steps.specs.States.{State, StateTransition}
use Rattle.pepa_steps.specs.ListAnswers.{IsTransitionAt}
use Rattle.pepa_steps.specs.WholeVerdict.{StateStop, IsWholeVerdict}
use Rattle.pepa_steps.specs.declared.entries.Entry.{Entry}
use Rattle.sim_draws.specs.Numbers.{next_numbers}
use Rattle.sim_draws.specs.ExponentialDraw.{IsExponentialDraw, NoExponentialDraw}
use Rattle.sim_draws.specs.FairDraw.{IsDrawBelow, NoDrawBelow}
use Rattle.sim_space.specs.Stops.{stop_of_verdict}
use Rattle.sim_space.specs.LoadedLists.{fractions_in, weights_in, IsChoiceList, IsChosen}
use Rattle.sim_space.specs.declared.stop.Stop.{Stop}
use Rattle.sim_space.specs.declared.stop.Stop.TheVariants.{TimeOverflow, DrawLimit}
use Rattle.sim_space.specs.declared.space.Halt.{Halt}
use Rattle.sim_space.specs.declared.space.Halt.TheVariants as halt
use Rattle.sim_replication.specs.Signals.{TakenJump}

-- a point of a replication: the state of the system, the time in ticks, and the place of the next number
pub record Point : Type 0 where
  pub state : State
  pub time : ℕ
  pub place : ℕ

-- the sum of the weights
abbrev pub whole_of : List Entry → ℕ
whole_of entries = sum (weights_in entries)

-- the time after an exponential draw: the draw is over the exit rate of the state, which is the sum of the weights over their
-- denominator; what is less than a tick is left off
abbrev pub time_after : List Entry → ℕ → ℕ → ℕ
time_after entries time draw = time + draw * common_den (fractions_in entries) / whole_of entries

-- the draw of the time of the next jump from a point, and how many numbers it uses
abbrev pub IsTimeDraw : (ℕ → ℕ) → Point → ℕ → ℕ → Type 0
IsTimeDraw at p draw used = IsExponentialDraw (next_numbers at p.place 256) draw used

-- the numbers from which the transition is chosen, after those that the time used
abbrev pub choice_numbers : (ℕ → ℕ) → Point → ℕ → List ℕ
choice_numbers at p used = next_numbers at (p.place + used) 64

-- a jump from one point to another: one of the transitions of a state that no verdict names a stop for
pub record JumpsTo (m : PepaModel) (at : ℕ → ℕ) (p : Point) (taken : TakenJump) (q : Point) : Type 0 where
  pub entries : List Entry
  pub listed : IsChoiceList m p.state entries
  -- when
  pub draw : ℕ
  pub draw_used : ℕ
  pub drawn : IsTimeDraw at p draw draw_used
  pub time_is : q.time ≡ time_after entries p.time draw
  pub in_time : q.time < 2 ^ 63
  -- by which transition: the first whose weight, added to those before it, is above a number drawn below their sum
  pub choice : ℕ
  pub choice_used : ℕ
  pub choosing : IsDrawBelow (choice_numbers at p draw_used) (whole_of entries) choice choice_used
  pub index : ℕ
  pub chosen : IsChosen (weights_in entries) choice index
  pub transition : StateTransition
  pub transition_is : IsTransitionAt m.bodies p.state index transition
  -- what follows
  pub target_is : q.state ≡ transition.target
  pub place_is : q.place ≡ p.place + draw_used + choice_used
  pub taken_is : taken ≡ record { from = p.state; signals = transition.signals; time = q.time }

-- the numbers don't decide when; or they do, and the time is in range, and they don't decide where to
pub data IsOutOfNumbers (at : ℕ → ℕ) (p : Point) (entries : List Entry) : Type 0 where
  NoTime : NoExponentialDraw (next_numbers at p.place 256) → IsOutOfNumbers at p entries
  NoChoice : (draw used : ℕ) → IsTimeDraw at p draw used → time_after entries p.time draw < 2 ^ 63
      → NoDrawBelow (choice_numbers at p used) (whole_of entries) → IsOutOfNumbers at p entries

-- the state has transitions to choose from, and at least one
abbrev pub HasChoice : PepaModel → State → List Entry → Type 0
HasChoice m state entries = IsChoiceList m state entries × (0 < length entries)

-- why a replication stops at a point at which it would jump: the numbers decide no jump; or the time isn't in range; else the verdict
-- on the state names this stop
abbrev pub StopsBy : PepaModel → (ℕ → ℕ) → Point → Stop → Type 0
StopsBy m at p DrawLimit = (entries : List Entry) × HasChoice m p.state entries × IsOutOfNumbers at p entries
StopsBy m at p TimeOverflow =
    (entries : List Entry) × HasChoice m p.state entries
    × ((draw : ℕ) × ((used : ℕ) × IsTimeDraw at p draw used × (2 ^ 63 ≤ time_after entries p.time draw)))
StopsBy m at p s = (verdict : StateStop) × IsWholeVerdict m.bodies p.state verdict × (s ≡ stop_of_verdict verdict)

-- what a halt says: a stop, its cause; else nothing
abbrev pub HaltsBy : (Stop → Type 0) → Halt → Type 0
HaltsBy stops (halt.Stop s) = stops s
HaltsBy stops _ = ⊤

-- what a call says that makes a jump, finds that there is none, or stops
abbrev pub AnswersJump : {X : Type 0} → (X → Type 0) → Type 0 → (Stop → Type 0) → Result (Option X) Halt → Type 0
AnswersJump jumps dead stops (Ok (Some x)) = jumps x
AnswersJump jumps dead stops (Ok None) = dead
AnswersJump jumps dead stops (Err e) = HaltsBy stops e
