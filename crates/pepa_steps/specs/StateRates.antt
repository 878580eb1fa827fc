-- Apparent rates of states, as they are computed and as `apparent` answers them.
use Rattle.std.specs.Prelude.{◌≡◌, ℕ, ◌<◌, Bool, true, false, if◌then◌else◌, Option, Result, Ok, Err, List}
use Rattle.std.specs.List.{AllByRecursion}
use Rattle.std.specs.BTreeMap.{BTreeMap}
use Rattle.pepa_rates.specs.declared.rate.Rate.{Rate}
use Rattle.pepa_rates.specs.declared.rate.RateFault.{RateFault}
use Rattle.pepa_model.specs.Expression.{Definition}
use Rattle.pepa_model.specs.Apparent.{Apparent, NoRate, together, IsFine, HasFault}
use Rattle.pepa_model.specs.Verdict.{IsFirstFault, IsLeastFault}
use Rattle.pepa_steps.specs.States.{State, has}
use Rattle.pepa_steps.specs.OpenStates.{OpenState, parts_in, apparent_in, least_if_both}
use Rattle.pepa_steps.specs.StateVerdict.{IsApparentRate, IsApparentFault}
use Rattle.pepa_steps.specs.ApparentAnswers.{apparent_of, IsTogether}
use Rattle.pepa_steps.specs.ActionRates.{rate_in, AllFine}
use Rattle.fault_ends.specs.Answers.{OkOrFault}
use Rattle.fault_ends.specs.declared.end.End.{End}

-- ---- one action

-- the apparent rate where no part of the state has a fault for the action, else the fault of the first such part
abbrev pub IsApparentAnswer : List Definition → State → ℕ → Result (Option Rate) RateFault → Type 0
IsApparentAnswer definitions state action (Ok rate) = IsApparentRate definitions state action (apparent_of rate)
IsApparentAnswer definitions state action (Err fault) = IsApparentFault definitions state action fault

-- the same of an opened state
abbrev pub AnswersTree : OpenState → ℕ → Result (Option Rate) RateFault → Type 0
AnswersTree tree action (Ok rate) = AllByRecursion (λ part. IsFine (apparent_in part action)) (parts_in tree) × (apparent_in tree action ≡ apparent_of rate)
AnswersTree tree action (Err fault) = IsFirstFault (λ part. IsFine (apparent_in part action)) (λ part f. HasFault (apparent_in part action) f) (parts_in tree) fault

-- the rate of a cooperation, of those of its sides, where the action is in its set or isn't; else its fault
abbrev pub IsOfCooperation : Bool → Option Rate → Option Rate → Result (Option Rate) RateFault → Type 0
IsOfCooperation true left right result = (rate : Option Rate) × (result ≡ Ok rate) × (least_if_both (apparent_of left) (apparent_of right) ≡ apparent_of rate)
IsOfCooperation false left right result = IsTogether left right result

-- ---- all actions

-- the entries are the apparent rates of the state, for actions from 1 up
pub record AreStateRates (entries : List (ℕ × Rate)) (tree : OpenState) : Type 0 where
  pub each : (action : ℕ) → 0 < action → rate_in entries action ≡ apparent_in tree action
  pub no_tau : rate_in entries 0 ≡ NoRate

-- the rates of a cooperation over these types, action by action
abbrev pub rates_of_cooperation : List ℕ → List (ℕ × Rate) → List (ℕ × Rate) → ℕ → Apparent
rates_of_cooperation types left right action =
    if has types action then least_if_both (rate_in left action) (rate_in right action) else together (rate_in left action) (rate_in right action)

-- the rates of a system that hides these types
abbrev pub rates_of_hiding : List ℕ → List (ℕ × Rate) → ℕ → Apparent
rates_of_hiding types inner action = if has types action then NoRate else rate_in inner action

-- the entries are these rates, which are in order; else the fault of the least action that has one
abbrev pub AnswersRatesBy : (ℕ → Apparent) → Result (BTreeMap ℕ Rate) (End RateFault) → Type 0
AnswersRatesBy rates result =
    OkOrFault result (λ found. AllFine found.entries × ((action : ℕ) → rate_in found.entries action ≡ rates action)) (λ fault. IsLeastFault rates 0 fault)
