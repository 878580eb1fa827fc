-- Apparent rates of sequential components, as they are computed.
use Rattle.std.specs.Prelude.{◌≡◌, ℕ, ◌≤◌, List, Option, Some, None, Result, Ok, Err}
use Rattle.pepa_rates.specs.declared.rate.Rate.{Rate}
use Rattle.pepa_rates.specs.declared.rate.RateFault.{RateFault}
use Rattle.pepa_model.specs.Expression.{Expression, Definition}
use Rattle.pepa_model.specs.Opened.{Opened, Opens, height}
use Rattle.pepa_model.specs.Apparent.{Apparent, NoRate, Rated, apparent_rate, together, IsFine, HasFault}
use Rattle.pepa_model.specs.Verdict.{IsFineFor, IsFaultFor}

abbrev pub apparent_of : Option Rate → Apparent
apparent_of None = NoRate
apparent_of (Some r) = Rated r

-- the apparent rate where no part of an opened component has a fault for the action, else the fault of the first such part
abbrev pub AnswersOpened : Opened → ℕ → Result (Option Rate) RateFault → Type 0
AnswersOpened whole action (Ok rate) = IsFineFor action whole × (apparent_rate whole action ≡ apparent_of rate)
AnswersOpened whole action (Err fault) = IsFaultFor action whole fault

-- the component opens into a tree of at most this height
pub record CanOpen (definitions : List Definition) (e : Expression) (depth : ℕ) : Type 0 where
  pub opened : Opened
  pub opens : Opens definitions e opened
  pub within : height opened ≤ depth

-- the sum of two apparent rates where it is in order, else its fault
abbrev pub IsTogether : Option Rate → Option Rate → Result (Option Rate) RateFault → Type 0
IsTogether left right (Ok rate) = (together (apparent_of left) (apparent_of right) ≡ apparent_of rate) × (IsFine (apparent_of left) → IsFine (apparent_of right) → IsFine (apparent_of rate))
IsTogether left right (Err fault) = HasFault (together (apparent_of left) (apparent_of right)) fault
