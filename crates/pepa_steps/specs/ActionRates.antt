-- Apparent rates by action type.
use Rattle.std.specs.Prelude.{◌≡◌, ◌≢◌, ◌==◌, ℕ, ◌<◌, if◌then◌else◌, List, Result}
use Rattle.std.specs.Ordering.{nat_cmp}
use Rattle.std.specs.BTreeMap.{BTreeMap, is_at}
use Rattle.std.specs.Map.{lookup}
use Rattle.std.specs.List.{AllByRecursion}
use Rattle.pepa_rates.specs.declared.rate.Rate.{Rate}
use Rattle.pepa_rates.specs.declared.rate.RateFault.{RateFault}
use Rattle.pepa_model.specs.Opened.{Opened, parts}
use Rattle.pepa_model.specs.Apparent.{Apparent, NoRate, Rated, apparent_rate, together, IsFine, HasFault}
use Rattle.pepa_model.specs.Verdict.{IsFirstFault, IsLeastFault}
use Rattle.pepa_steps.specs.ApparentAnswers.{apparent_of}
use Rattle.fault_ends.specs.Answers.{OkOrFault}
use Rattle.fault_ends.specs.declared.end.End.{End}

-- the rate that the entries have for an action
abbrev pub rate_in : List (ℕ × Rate) → ℕ → Apparent
rate_in entries action = apparent_of (lookup (is_at (nat_cmp action)) entries)

-- each rate is in range
abbrev pub AllFine : List (ℕ × Rate) → Type 0
AllFine entries = (action : ℕ) → IsFine (rate_in entries action)

-- new is old with the rate added for the action
pub record AddsRate (old new : List (ℕ × Rate)) (action : ℕ) (rate : Rate) : Type 0 where
  pub here : rate_in new action ≡ together (rate_in old action) (Rated rate)
  pub elsewhere : (other : ℕ) → other ≢ action → rate_in new other ≡ rate_in old other
  pub fine : IsFine (rate_in new action)

-- the rates of a choice, action by action
abbrev pub rates_of_choice : List (ℕ × Rate) → List (ℕ × Rate) → ℕ → Apparent
rates_of_choice left right action = together (rate_in left action) (rate_in right action)

-- a part whose apparent rates are in order
abbrev pub HasFineComponentRates : Opened → Type 0
HasFineComponentRates part = (action : ℕ) → 0 < action → IsFine (apparent_rate part action)

-- the fault of the least action from 1 up that has one
abbrev pub HasLeastFault : Opened → RateFault → Type 0
HasLeastFault part fault = IsLeastFault (apparent_rate part) 1 fault

-- the entries are the apparent rates of the component, for actions from 1 up
pub record AreRatesOf (entries : List (ℕ × Rate)) (whole : Opened) : Type 0 where
  pub each : (action : ℕ) → 0 < action → rate_in entries action ≡ apparent_rate whole action
  pub no_tau : rate_in entries 0 ≡ NoRate

-- the rates of a component without a fault, else its first fault
abbrev pub AnswersRates : Opened → Result (BTreeMap ℕ Rate) (End RateFault) → Type 0
AnswersRates whole result =
    OkOrFault result (λ rates. AllByRecursion HasFineComponentRates (parts whole) × AreRatesOf rates.entries whole)
    (λ fault. IsFirstFault HasFineComponentRates HasLeastFault (parts whole) fault)

-- the rates of a prefix: its own, unless it is `tau`
abbrev pub IsRatesOfPrefix : ℕ → Rate → Result (BTreeMap ℕ Rate) (End RateFault) → Type 0
IsRatesOfPrefix action rate result =
    OkOrFault result (λ rates. AllFine rates.entries × ((other : ℕ) → 0 < other → rate_in rates.entries other ≡ (if action == other then Rated rate else NoRate)) × (rate_in rates.entries 0 ≡ NoRate))
    (λ fault. ⊥)

-- the rate is added; else the sum has this fault
abbrev pub AnswersAddition : List (ℕ × Rate) → List (ℕ × Rate) → ℕ → Rate → Result (Unit {0}) (End RateFault) → Type 0
AnswersAddition old new action rate result = OkOrFault result (λ _. AddsRate old new action rate) (λ fault. HasFault (together (rate_in old action) (Rated rate)) fault)

-- the rates of a choice, which are in order; else the fault of the least action that has one
abbrev pub AnswersChoice : List (ℕ × Rate) → List (ℕ × Rate) → Result (BTreeMap ℕ Rate) (End RateFault) → Type 0
AnswersChoice left right result =
    OkOrFault result (λ rates. AllFine rates.entries × ((action : ℕ) → rate_in rates.entries action ≡ rates_of_choice left right action))
    (λ fault. IsLeastFault (rates_of_choice left right) 0 fault)
